use Rattle.std.proofs.Common.{◌∙◌, sym, subst}
use Rattle.snb_base.specs.Spellings.{HasOneYear, Listed, SpellsPair, pair_eq}
use Rattle.snb_columns.proofs.Laws.{not_listed, read_all, read_fails, read_new, read_repeat, same_parts}
use Rattle.snb_input_fields.proofs.SeenFacts.{not_false, not_true, one_pair, seen_again, seen_new}
use Rattle.snb_input_fields.proofs.lists.read_pairs.Goals as goal
use Rattle.snb_input_fields.proofs.lists.read_pairs.Goals.{After-loop-part, then-new+in_ok-push, else-new}

pub returns-in_default : goal.returns-in_default
returns-in_default c = λ pairs listed. read_fails SpellsPair pair_eq c.deref-part-items.result.now c.loop-part.part-index _ c.args.field.now c.loop-part-test.true (same_parts c.deref-part-items.result.now c.in_ok-parts.parts.items c.args.field.now c.deref-part-items.ensures.value c.in_ok-parts.ensures) c.in_default.ensures pairs listed.0

pub loop-part-preserved : goal.loop-part-preserved
loop-part-preserved c =
    let before = c.loop-part.invariant.same in
    let notes = c.in_ok-new.ensures.seen in
    elim c.if-new.branch [
      | then-new+in_ok-push w ↦
          let is = w.pairs-is ∙ w.in_ok-push.ensures.ok in
          let none = sym (before c.in-Some.pair) ∙ not_true _ (sym w.if-new.true ∙ c.in_ok-new.ensures.new) in
          record {
            read = read_new SpellsPair pair_eq c.deref-part-items.result.now c.loop-part.part-index _ c.loop-part.pairs c.if-new.pairs c.in-Some.pair c.loop-part-test.true c.loop-part.invariant.read c.in-Some.ensures none is;
            same = seen_new pair_eq one_pair c.loop-part.pairs c.loop-part.seen.keys c.note_pair.new.seen.keys c.if-new.pairs c.in-Some.pair before notes is;
          }
      | else-new w ↦
          let there = sym (before c.in-Some.pair) ∙ not_false _ (sym w.if-new.false ∙ c.in_ok-new.ensures.new) in
          record {
            read = read_repeat SpellsPair pair_eq c.deref-part-items.result.now c.loop-part.part-index _ c.loop-part.pairs c.if-new.pairs c.in-Some.pair c.loop-part-test.true c.loop-part.invariant.read c.in-Some.ensures there w.pairs-is;
            same = seen_again pair_eq one_pair c.loop-part.pairs c.loop-part.seen.keys c.note_pair.new.seen.keys c.if-new.pairs c.in-Some.pair before notes there w.pairs-is;
          }
    ]

-- the pairs are those of the field
read : (c : After-loop-part) → Listed SpellsPair pair_eq c.args.field.now c.loop-part.pairs
read c = read_all SpellsPair pair_eq c.deref-part-items.result.now c.loop-part.part-index c.args.field.now c.loop-part.pairs c.loop-part-test.false (same_parts c.deref-part-items.result.now c.in_ok-parts.parts.items c.args.field.now c.deref-part-items.ensures.value c.in_ok-parts.ensures) c.loop-part.invariant.read

pub returns-then-not-one : goal.returns-then-not-one
returns-then-not-one c = λ pairs.
    not_listed c.one_spelling.ensures.value c.args.field.now c.loop-part.pairs pairs (read (goal.at.returns-then-not-one c).After-loop-part)
    (λ years. let one = c.in_ok-one.ensures.1 (subst HasOneYear (sym c.as_slice.ensures) years) in absurd cc)

pub returns : goal.returns
returns c = (read (goal.at.returns c).After-loop-part, subst HasOneYear c.as_slice.ensures (c.in_ok-one.ensures.0 c.if-not-one.false))
