use Rattle.std.proofs.Common.{◌∙◌, All, List, Global, Vec, ap, map, subst, sym}
use Rattle.snb_schema.specs.declared.op.Line.{Line}
use Rattle.snb_streams.specs.declared.order.InOrder.{InOrder}
use Rattle.snb_loader.specs.Lanes.{AreTaken}
use Rattle.snb_loader.proofs.OrderFacts.{no_lines, stream_more}
use Rattle.snb_loader.proofs.streams.StreamFileSinkSinkLine.next_file.Goals as goal

pub invariant_of-self : goal.invariant_of-self
invariant_of-self c =
    let none =
    no_lines c.replace-mine.new.dest.sink.items c.replace-mine.new.dest.last (ap (λ (z : InOrder (Vec Line Global)). z.sink.items) c.replace-mine.ensures.after ∙ c.no_lines.ensures.none)
    (ap (λ (z : InOrder (Vec Line Global)). z.last) c.replace-mine.ensures.after ∙ c.no_lines.ensures.last) in
    (subst (λ (vs : List (Vec Line Global)). All AreTaken (map (λ v. v.items) vs)) (sym c.in_err-push.ensures.items) c.self.invariant.0, none.0, none.1)

pub invariant_of-self-2 : goal.invariant_of-self-2
invariant_of-self-2 c =
    let none =
    no_lines c.replace-mine.new.dest.sink.items c.replace-mine.new.dest.last (ap (λ (z : InOrder (Vec Line Global)). z.sink.items) c.replace-mine.ensures.after ∙ c.no_lines.ensures.none)
    (ap (λ (z : InOrder (Vec Line Global)). z.last) c.replace-mine.ensures.after ∙ c.no_lines.ensures.last) in (
      stream_more c.self.inside.done.items c.push.new.self.items c.replace-mine.result.sink c.in_ok-push.ensures.items c.self.invariant.0
          (subst (λ (z : InOrder (Vec Line Global)). AreTaken z.sink.items) (sym c.replace-mine.ensures.value) c.self.invariant.1),
      none.0,
      none.1,
    )
