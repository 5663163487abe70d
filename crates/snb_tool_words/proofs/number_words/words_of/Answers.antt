use Rattle.std.proofs.Common.{arith, ◌++◌, ◌+◌, List, subst, sym, ℕ}
use Rattle.snb_tool_words.specs.Options.{SpellsWords}
use Rattle.snb_tool_words.proofs.NumberLemmas.{AreAfter, last_is, last_made, next_is, next_made, none_after}
use Rattle.snb_tool_words.proofs.number_words.words_of.Goals as goal

pub loop-i-init : goal.loop-i-init
loop-i-init c =
    let few = c.requires.1.few in
    rw (c.as_bytes-rest.ensures.value, c.new-words.ensures) ((c.requires.0, c.requires.1.spelled, omega arith), c.requires.1)

pub id_of-requires : goal.id_of-requires
id_of-requires c = last_is c.loop-i._i c.loop-i.rest.now c.loop-i-test.true c.in_default.ensures c.loop-i.invariant.0

pub returns-in_default : goal.returns-in_default
returns-in_default c =
    subst (SpellsWords c.args.text.now) (sym c.in_ok-push.ensures.ok)
    (last_made c.loop-i._i c.loop-i.rest.now c.loop-i-test.true c.in_default.ensures c.args.text.now c.loop-i.words c.loop-i.invariant.0 c.id_of.result c.loop-i.invariant.1 c.id_of.ensures)

pub id_of-requires-in-loop-i : goal.id_of-requires-in-loop-i
id_of-requires-in-loop-i c = next_is c.loop-i._i c.loop-i.rest.now _ _ c.in-Some.ensures.0 c.in-Some.ensures.1 c.loop-i.invariant.0

pub loop-i-preserved : goal.loop-i-preserved
loop-i-preserved c =
    subst (λ (words : List ℕ). (more : AreAfter (c.loop-i._i + 1) c.in-Some.more.now) × SpellsWords c.args.text.now (words ++ more.0)) (sym c.in_ok-push-2.ensures.ok)
    (next_made c.loop-i._i c.loop-i.rest.now _ _ c.in-Some.ensures.0 c.in-Some.ensures.1 c.args.text.now c.loop-i.words c.loop-i.invariant.0 c.id_of-in-loop-i.result c.loop-i.invariant.1 c.id_of-in-loop-i.ensures)

pub unreachable-requires : goal.unreachable-requires
unreachable-requires c = none_after c.loop-i._i c.loop-i.rest.now c.loop-i-test.false c.loop-i.invariant.0
