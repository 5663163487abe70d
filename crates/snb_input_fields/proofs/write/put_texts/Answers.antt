use Rattle.std.proofs.Common.{◌++◌, ◌∙◌, List, add-one, ap, get_or, suc, take, ℕ}
use Rattle.std.specs.List.{join_with_byte}
use Rattle.snb_input_fields.proofs.JoinFacts.{grown, mark_before, texts_more}
use Rattle.snb_input_fields.proofs.write.put_texts.Goals as goal

pub loop-i-preserved : goal.loop-i-preserved
loop-i-preserved c =
    let item = c.index-texts-i.result in
    let next = texts_more c.loop-i.i c.args.texts.now item c.loop-i-test.true in
    let text = c.as_bytes.ensures.value ∙ c.as_str.ensures ∙ c.index-texts-i.is in
    rw add-one (grown c.args.line.now.items (join_with_byte 59 (take c.loop-i.i c.args.texts.now)) (mark_before 59 c.loop-i.i) (get_or c.args.texts.now c.loop-i.i item) c.loop-i.line.items c.put_between.new.line.items c.extend_from_slice.new.self.items
    (join_with_byte 59 (take (suc c.loop-i.i) c.args.texts.now)) c.loop-i.invariant c.in_ok-put_between.ensures.ok (c.in_ok-extend_from_slice.ensures.items ∙ ap (λ (t : List ℕ). c.put_between.new.line.items ++ t) text) next)
