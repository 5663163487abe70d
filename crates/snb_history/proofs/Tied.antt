-- Row tie is a schedule's.
use Rattle.std.proofs.Common.{◌≡◌, ℕ, ◌<◌, ◌≤◌, inl, refl, subst, arith}
use Rattle.snb_history.specs.Schedule.{step_of, ComesBefore, IsPlanned}
use Rattle.snb_history.specs.Worked.{tie}
use Rattle.snb_base.proofs.Laws.{by_two}

-- the schedule of a person and a friendship that waits for it is a plan's
pub planned_tie : IsPlanned tie
planned_tie = record {
  few_lanes = omega arith;
  few_steps = omega arith;
  in_lanes = by_two (λ k. (step_of tie k).lane < 2) (omega arith) (omega arith);
  ordered = λ j k below within.
      by_two (λ k. (j : ℕ) → j < k → ComesBefore (step_of tie j) (step_of tie k))
      (λ j lt. absurd (omega arith))
      (λ j lt. subst (λ (i : ℕ). ComesBefore (step_of tie i) (step_of tie 1)) (let e : 0 ≡ j = omega arith in e) (inl (omega arith)))
      k within j below;
  placed = by_two (λ k. _) refl refl;
  due_rises = λ j k below within.
      by_two (λ k. (j : ℕ) → j < k → (step_of tie j).due ≤ (step_of tie k).due)
      (λ j lt. absurd (omega arith))
      (λ j lt. subst (λ (i : ℕ). (step_of tie i).due ≤ (step_of tie 1).due) (let e : 0 ≡ j = omega arith in e) (omega arith))
      k within j below;
  timed = by_two (λ k. _) (omega arith) (omega arith);
  needs_timed = by_two (λ k. _) (omega arith) (omega arith);
  due_timed = by_two (λ k. _) (omega arith) (omega arith);
  reads = by_two (λ k. _) (λ q. absurd cc, λ q. absurd cc) (λ q. absurd cc, λ q. absurd cc);
}
