use Rattle.std.proofs.Common.{refl}
use Rattle.snb_tool_words.proofs.NumberLemmas.{last_after, next_after, next_is, none_after}
use Rattle.snb_tool_words.proofs.OptionLemmas.{not_true}
use Rattle.snb_tool_words.proofs.number_words.are_words.Goals as goal

pub returns-in_default : goal.returns-in_default
returns-in_default c =
    let iff = last_after c.loop-i._i c.loop-i.rest.now c.loop-i-test.true c.in_default.ensures c.is_id.result c.is_id.ensures in
    (λ t. c.loop-i.invariant.1 (iff.0 t), λ s. iff.1 (c.loop-i.invariant.0 s))

pub returns-then-not-is_id : goal.returns-then-not-is_id
returns-then-not-is_id c = (
  λ e. not_true e,
  λ s. c.if-not-is_id.ensures.1 (next_is c.loop-i._i c.loop-i.rest.now _ _ c.in-Some.ensures.0 c.in-Some.ensures.1 (c.loop-i.invariant.0 s)),
)

pub loop-i-preserved : goal.loop-i-preserved
loop-i-preserved c =
    let iff = next_after c.loop-i._i c.loop-i.rest.now _ _ c.in-Some.ensures.0 c.in-Some.ensures.1 (c.if-not-is_id.ensures.0 refl) in
    (λ s. iff.0 (c.loop-i.invariant.0 s), λ s. c.loop-i.invariant.1 (iff.1 s))

pub returns : goal.returns
returns c = (λ e. not_true e, λ s. absurd (none_after c.loop-i._i c.loop-i.rest.now c.loop-i-test.false (c.loop-i.invariant.0 s)))
