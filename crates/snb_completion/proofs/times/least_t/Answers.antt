use Rattle.std.proofs.Common.{◌≡◌, ℕ, ◌<◌, List, [], ◌∷◌, length, true, get_or, refl, subst, sym, arith}
use Rattle.std.proofs.lemmas.Bool.{false≢true}
use Rattle.std.proofs.lemmas.Map.Keys.{le_from_not_gt}
use Rattle.snb_history.specs.declared.step.Step.{Step}
use Rattle.snb_history.specs.Schedule.{no_step}
use Rattle.snb_history.specs.Completion.{least_t}
use Rattle.snb_completion.specs.Waiting.{has}
use Rattle.snb_completion.proofs.Waits.{has-none, least_t-none, least_t-first}
use Rattle.snb_completion.proofs.times.least_t.Goals as goal

no_keys : (keys : List ℕ) → (0 < length keys → ⊥) → keys ≡ []
no_keys [] none = refl
no_keys (k ∷ keys) none = absurd (none (omega arith))

pub returns-in-None-clause-value : goal.returns-in-None-clause-value
returns-in-None-clause-value c =
    let empty : c.args.set.now.keys ≡ [] = no_keys c.args.set.now.keys (λ some. false≢true (c.in-None.ensures.variant.1 some)) in
    sym (least_t-none c.args.schedule.now (has c.args.set.now) (λ k lt. has-none c.args.set.now k empty))

pub returns-in-Some-clause-value : goal.returns-in-Some-clause-value
returns-in-Some-clause-value c =
    let member : has c.args.set.now c.in-Some.op.now ≡ true = c.in-Some.ensures.member in
    subst (λ (l : List Step). (get_or l c.in-Some.op.now no_step).t ≡ least_t c.args.schedule.now (has c.args.set.now)) (sym c.steps.ensures.value)
    (sym (least_t-first c.args.schedule.now (has c.args.set.now) c.in-Some.op.now c.steps.ensures.planned (c.requires c.in-Some.op.now member) member
    (λ q lt found. le_from_not_gt c.in-Some.op.now q (c.in-Some.ensures.least q found))))
