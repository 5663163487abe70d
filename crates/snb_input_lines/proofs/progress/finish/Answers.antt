use Rattle.std.proofs.Common.{sym, ap, ◌≡◌, ◌≢◌, ◌∙◌, [], inl, inr, subst, Some}
use Rattle.snb_input_lines.specs.Reading.{end_fault}
use Rattle.snb_input_lines.proofs.RunFacts.{bad_at_once, empty_vec, filled_vec, last_stops, last_then_bad}
use Rattle.snb_input_lines.proofs.progress.finish.Goals as goal
use Rattle.snb_input_lines.proofs.progress.finish.Goals.{then-not-is_empty+in_ok-take_last, else-not-is_empty}
use Rattle.snb_schema.proofs.Laws.{passed_on}

pub returns-in_err-take_last-clause-bad : goal.returns-in_err-take_last-clause-bad
returns-in_err-take_last-clause-bad g c =
    let begun = c.args.at.now.begun.items in
    let filled : begun ≢ [] = filled_vec begun c.args.at.now.begun.len c.args.at.now.begun.ok.0 (sym c.is_empty.ensures ∙ c.if-not-is_empty.true) in
    passed_on c.from_residual.result c.in_err-take_last.field-0.0 _ _ c.from_residual.ensures.1 c.in_err-take_last.ensures.bad
    (λ r bad. ([], c.args.sink.now, inl (last_stops (g.G.Grammar.language c.args.of.now.grammar) g.S.Sink.meaning.takes c.args.of.now.file g.S.Sink.meaning.refuses c.args.at.now.known c.args.at.now.ended begun c.args.sink.now r filled bad), c.in_err-take_last.ensures.same))

pub returns-in-Some-clause-bad : goal.returns-in-Some-clause-bad
returns-in-Some-clause-bad g c =
    let begun = c.args.at.now.begun.items in
    let lang = g.G.Grammar.language c.args.of.now.grammar in
    let file = c.args.of.now.file in
    let bad : end_fault file c.if-not-is_empty.at.known (g.S.Sink.meaning.ends c.if-not-is_empty.sink file) ≡ Some c.in-Some.refusal =
    ap (end_fault file c.if-not-is_empty.at.known) (sym c.at_end.ensures) ∙ sym c.end_refusal.ensures ∙ c.in-Some.is in
    elim c.if-not-is_empty.branch [
      | then-not-is_empty+in_ok-take_last w ↦
          let filled : begun ≢ [] = filled_vec begun c.args.at.now.begun.len c.args.at.now.begun.ok.0 (sym c.is_empty.ensures ∙ w.if-not-is_empty.true) in
          let read = w.in_ok-take_last.ensures.ok in (
            read.0,
            w.take_last.new.sink,
            inr (last_then_bad lang g.S.Sink.meaning.takes file g.S.Sink.meaning.ends c.args.at.now.known w.take_last.new.at.known c.args.at.now.ended begun read.0 c.args.sink.now w.take_last.new.sink c.in-Some.refusal filled read.1 read.2 (rw (w.at-is, w.sink-is) at bad)),
            subst (λ x. g.S.Sink.meaning.same w.take_last.new.sink x) (sym w.sink-is) (g.met.S.Sink.same_self w.take_last.new.sink),
          )
      | else-not-is_empty w ↦
          let empty = empty_vec begun c.args.at.now.begun.len c.args.at.now.begun.ok.0 (sym c.is_empty.ensures ∙ w.if-not-is_empty.false) in (
            [],
            c.args.sink.now,
            inr (bad_at_once lang g.S.Sink.meaning.takes file g.S.Sink.meaning.ends c.args.at.now.known c.args.at.now.ended begun c.args.sink.now c.in-Some.refusal empty (rw (w.at-is, w.sink-is) at bad)),
            subst (λ x. g.S.Sink.meaning.same c.args.sink.now x) (sym w.sink-is) (g.met.S.Sink.same_self c.args.sink.now),
          )
    ]
