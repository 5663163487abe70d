-- What the order of a plan's steps implies.
use Rattle.std.proofs.Common.{◌≡◌, ℕ, zero, suc, ◌+◌, ◌<◌, ◌≤◌, List, length, take, get_or, Bool, inl, inr, ap, ◌∙◌, subst, arith}
use Rattle.std.specs.Prelude.{◌==◌, count_by}
use Rattle.std.proofs.lemmas.Bool.{cases_lt, cases_Bool, eq-eqb}
use Rattle.std.proofs.lemmas.List.Sums.{count_by_more_yes, count_by_more_no}
use Rattle.snb_history.specs.declared.step.Step.{Step}
use Rattle.snb_history.specs.Schedule.{Schedule, step_of, no_step, count_before, ComesBefore, IsPlanned}
use Rattle.snb_history.specs.ScheduleLaws.{PlannedIsPlaced, PlannedIsTimely}

-- a count over a longer list is no smaller, and greater where one more passes
counts_rise : (p : Step → Bool) (xs : List Step) (j k : ℕ) → j ≤ k → k ≤ length xs → count_by p (take j xs) ≤ count_by p (take k xs)
counts_rise p xs j zero le within = (let e : j ≡ 0 = omega arith in rw e (omega arith))
counts_rise p xs j (suc k) le within =
    elim (cases_lt j (suc k)) [
      | inl below ↦
          let ih = counts_rise p xs j k (omega arith) (omega arith) in
          let lt : k < length xs = omega arith in
          let next : k + 1 ≡ suc k = omega arith in
          elim (cases_Bool (p (get_or xs k no_step))) [
            | inl hit ↦
                (let c : count_by p (take (suc k) xs) ≡ count_by p (take k xs) + 1 = subst (λ (i : ℕ). count_by p (take i xs) ≡ count_by p (take k xs) + 1) next (count_by_more_yes p xs k no_step lt hit) in
                omega arith)
            | inr miss ↦
                (let c : count_by p (take (suc k) xs) ≡ count_by p (take k xs) = subst (λ (i : ℕ). count_by p (take i xs) ≡ count_by p (take k xs)) next (count_by_more_no p xs k no_step lt miss) in
                omega arith)
          ]
      | inr here ↦ (let e : j ≡ suc k = omega arith in rw e (omega arith))
    ]

-- along a schedule's lanes places rise
pub planned_is_placed : PlannedIsPlaced
planned_is_placed s planned = record {
  rises = λ j k below within same.
      let p : Step → Bool = λ step. step.lane == (step_of s k).lane in
      let lt : j < length s.steps = omega arith in
      let a : (step_of s j).place ≡ count_before s (step_of s k).lane j = planned.placed j lt ∙ ap (λ l. count_before s l j) same in
      let b : (step_of s k).place ≡ count_before s (step_of s k).lane k = planned.placed k within in
      let c : count_by p (take (j + 1) s.steps) ≡ count_by p (take j s.steps) + 1 = count_by_more_yes p s.steps j no_step lt (eq-eqb (step_of s j).lane (step_of s k).lane same) in
      let d : count_by p (take (j + 1) s.steps) ≤ count_by p (take k s.steps) = counts_rise p s.steps (j + 1) k (omega arith) (omega arith) in
      omega arith;
}

pub t_rises : (one other : Step) → ComesBefore one other → one.t ≤ other.t
t_rises one other (inl less) = omega arith
t_rises one other (inr same) = (let e = same.0 in omega arith)

-- t doesn't fall along the numbers of a plan
pub t_rises_along : (s : Schedule) → IsPlanned s → (j k : ℕ) → j ≤ k → k < length s.steps → (step_of s j).t ≤ (step_of s k).t
t_rises_along s planned j k le within =
    elim (cases_lt j k) [
      | inl lt ↦ t_rises (step_of s j) (step_of s k) (planned.ordered j k lt within)
      | inr ge ↦ (let e : j ≡ k = omega arith in rw e (omega arith))
    ]

-- a schedule is timely where each dependent needs only what lies before it
pub planned_is_timely : PlannedIsTimely
planned_is_timely s planned below = record {
  numbered = t_rises_along s planned;
  due_rises = λ j k le within.
      elim (cases_lt j k) [
        | inl lt ↦ planned.due_rises j k lt within
        | inr ge ↦ (let e : j ≡ k = omega arith in rw e (omega arith))
      ];
  below = below;
}
