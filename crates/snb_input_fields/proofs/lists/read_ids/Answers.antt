use Rattle.std.proofs.Common.{◌∙◌, sym, nat_eq, eqb-true}
use Rattle.snb_base.specs.Spellings.{SpellsId}
use Rattle.snb_columns.proofs.Laws.{read_all, read_fails, read_new, read_repeat, same_parts}
use Rattle.snb_input_fields.proofs.SeenFacts.{not_false, not_true, seen_again, seen_new}
use Rattle.snb_input_fields.proofs.lists.read_ids.Goals as goal
use Rattle.snb_input_fields.proofs.lists.read_ids.Goals.{then-new+in_ok-push, else-new}

pub returns-in_default : goal.returns-in_default
returns-in_default c = read_fails SpellsId nat_eq c.deref-part-items.result.now c.loop-part.part-index _ c.args.field.now c.loop-part-test.true (same_parts c.deref-part-items.result.now c.in_ok-parts.parts.items c.args.field.now c.deref-part-items.ensures.value c.in_ok-parts.ensures) c.in_default.ensures

pub loop-part-preserved : goal.loop-part-preserved
loop-part-preserved c =
    let before = c.loop-part.invariant.same in
    let notes = c.in_ok-new.ensures.seen in
    elim c.if-new.branch [
      | then-new+in_ok-push w ↦
          let is = w.ids-is ∙ w.in_ok-push.ensures.ok in
          let none = sym (before c.in-Some.id) ∙ not_true _ (sym w.if-new.true ∙ c.in_ok-new.ensures.new) in
          record {
            read = read_new SpellsId nat_eq c.deref-part-items.result.now c.loop-part.part-index _ c.loop-part.ids c.if-new.ids c.in-Some.id c.loop-part-test.true c.loop-part.invariant.read c.in-Some.ensures none is;
            same = seen_new nat_eq eqb-true c.loop-part.ids c.loop-part.seen.keys c.note_id.new.seen.keys c.if-new.ids c.in-Some.id before notes is;
          }
      | else-new w ↦
          let there = sym (before c.in-Some.id) ∙ not_false _ (sym w.if-new.false ∙ c.in_ok-new.ensures.new) in
          record {
            read = read_repeat SpellsId nat_eq c.deref-part-items.result.now c.loop-part.part-index _ c.loop-part.ids c.if-new.ids c.in-Some.id c.loop-part-test.true c.loop-part.invariant.read c.in-Some.ensures there w.ids-is;
            same = seen_again nat_eq eqb-true c.loop-part.ids c.loop-part.seen.keys c.note_id.new.seen.keys c.if-new.ids c.in-Some.id before notes there w.ids-is;
          }
    ]

pub returns : goal.returns
returns c = read_all SpellsId nat_eq c.deref-part-items.result.now c.loop-part.part-index c.args.field.now c.loop-part.ids c.loop-part-test.false (same_parts c.deref-part-items.result.now c.in_ok-parts.parts.items c.args.field.now c.deref-part-items.ensures.value c.in_ok-parts.ensures) c.loop-part.invariant.read
