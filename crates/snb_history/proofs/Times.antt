-- The least t of the operations that pass a test, and the completion time.
use Rattle.std.proofs.Common.{◌≡◌, ℕ, zero, suc, ◌+◌, ◌<◌, ◌≤◌, min, List, [], ◌∷◌, ◌++◌, length, Bool, true, false, ◌&&◌, not, cond, ◌⊎◌, inl, inr, refl, sym, ap, ◌∙◌, subst, arith}
use Rattle.std.specs.Prelude.{pos, ◌-ℤ◌, ◌≤ℤ◌, ◌==◌, ◌↔◌}
use Rattle.std.proofs.lemmas.Bool.{cases_Bool, cases_lt, cases_order, eq-eqb, cond-true, cond-false, and_parts, and_from, not-true}
use Rattle.std.proofs.lemmas.List.{get_or_past}
use Rattle.std.proofs.lemmas.List.Folds.{list_any-append}
use Rattle.std.proofs.lemmas.Int.{ints}
use Rattle.std.proofs.Math.Nat.{min-le_left, min-le_right, le-min}
use Rattle.snb_schema.specs.declared.limits.TheConstants.{MAX_TIME}
use Rattle.snb_history.specs.declared.step.Step.{Step}
use Rattle.snb_history.specs.declared.event.Event.{Event}
use Rattle.snb_history.specs.Schedule.{Schedule, step_of, no_step, IsOperation, is_dependency}
use Rattle.snb_history.specs.History.{finishes, finished}
use Rattle.snb_history.specs.Completion.{least_of, least_t, is_left, is_awaited, time_left, completion, local}
use Rattle.snb_history.specs.Laws.{CompletionDecides, CompletionRises, CompletionWaits, CompletionIsReached, CompletionIsLocal, StartStays, BeforeIsByPlace}
use Rattle.snb_base.proofs.Laws.{min_is}

pub least_of-top : (f : ℕ → ℕ) (top : ℕ) (p : ℕ → Bool) (n : ℕ) → least_of f top p n ≤ top
least_of-top f top p zero = omega arith
least_of-top f top p (suc n) = omega (arith, min-le_right (cond (p n) (f n) top) (least_of f top p n), least_of-top f top p n)

-- a least value is no greater than that of a number that passes
pub least_of-le : (f : ℕ → ℕ) (top : ℕ) (p : ℕ → Bool) (n k : ℕ) → k < n → p k ≡ true → least_of f top p n ≤ f k
least_of-le f top p zero k lt passes = absurd (omega arith)
least_of-le f top p (suc n) k lt passes =
    elim (cases_lt k n) [
      | inl below ↦ omega (arith, min-le_right (cond (p n) (f n) top) (least_of f top p n), least_of-le f top p n k below passes)
      | inr here ↦
          let e : k ≡ n = omega arith in
          let passes_n : p n ≡ true = subst (λ (i : ℕ). p i ≡ true) e passes in
          let l : min (f n) (least_of f top p n) ≤ f n = min-le_left (f n) (least_of f top p n) in
          subst (λ (i : ℕ). least_of f top p (suc n) ≤ f i) (sym e) (rw passes_n l)
    ]

-- what is no greater than each value that counts is no greater than the least
pub le-least_of : (f : ℕ → ℕ) (top : ℕ) (p : ℕ → Bool) (n x : ℕ) → x ≤ top → ((k : ℕ) → k < n → p k ≡ true → x ≤ f k) → x ≤ least_of f top p n
le-least_of f top p zero x room each = room
le-least_of f top p (suc n) x room each =
    le-min
    (elim (cases_Bool (p n)) [ inl passes ↦ rw passes (each n (omega arith) passes) | inr fails ↦ rw fails room ])
    (le-least_of f top p n x room (λ k lt passes. each k (omega arith) passes))

-- a least value is that of a number that passes, or the top
pub least_of-reached : (f : ℕ → ℕ) (top : ℕ) (p : ℕ → Bool) (n : ℕ) → (least_of f top p n ≡ top) ⊎ ((k : ℕ) × (k < n) × (p k ≡ true) × (least_of f top p n ≡ f k))
least_of-reached f top p zero = inl refl
least_of-reached f top p (suc n) =
    elim (min_is (cond (p n) (f n) top) (least_of f top p n)) [
      | inl first ↦ elim (cases_Bool (p n)) [
        | inl passes ↦ inr (n, omega arith, passes, first ∙ cond-true (p n) _ _ passes)
        | inr fails ↦ inl (first ∙ cond-false (p n) _ _ fails)
      ]
      | inr rest ↦ elim (least_of-reached f top p n) [
        | inl all ↦ inl (rest ∙ all)
        | inr w ↦ inr (w.0, let lt : w.0 < n = w.1 in omega arith, w.2, rest ∙ w.3)
      ]
    ]

pub least_of-weaker : (f : ℕ → ℕ) (top : ℕ) (p q : ℕ → Bool) (n : ℕ) → ((k : ℕ) → q k ≡ true → p k ≡ true) → least_of f top p n ≤ least_of f top q n
least_of-weaker f top p q n fewer = le-least_of f top q n (least_of f top p n) (least_of-top f top p n) (λ k lt passes. least_of-le f top p n k lt (fewer k passes))

-- a number that is no operation is no dependency
pub is_dependency-within : (s : Schedule) (k : ℕ) → is_dependency s k ≡ true → k < length s.steps
is_dependency-within s k dep =
    elim (cases_lt k (length s.steps)) [
      | inl within ↦ within
      | inr past ↦ absurd (let e : step_of s k ≡ no_step = get_or_past s.steps k no_step past in let f = ap (λ (x : Step). x.dependency) e in cc)
    ]

is_awaited-from : (s : Schedule) (h : List Event) (k : ℕ) → is_dependency s k ≡ true → finished h k ≡ false → is_awaited s h k ≡ true
is_awaited-from s h k dep open_yet = and_from (is_dependency s k) (not (finished h k)) dep (ap not open_yet)

-- completion in whole numbers: c ≤ completion, where c + 1 is at most the least t
at_most_before : (c l : ℕ) → c < l → pos c ≤ℤ (pos l -ℤ pos 1)
at_most_before c l lt = omega (arith, ints)

below_from_at_most : (c l : ℕ) → pos c ≤ℤ (pos l -ℤ pos 1) → c < l
below_from_at_most c l le = omega (arith, ints)

-- the completion time is below the t of each dependency that is not finished
pub completion_waits : CompletionWaits
completion_waits s h k dep open_yet =
    let l = least_of-le (λ k. (step_of s k).t) (MAX_TIME + 1) (is_awaited s h) (length s.steps) k (is_dependency-within s k dep) (is_awaited-from s h k dep open_yet) in
    omega (arith, ints, l)

-- more events never lower the completion time
pub completion_rises : CompletionRises
completion_rises s g h =
    let l = least_of-weaker (λ k. (step_of s k).t) (MAX_TIME + 1) (is_awaited s g) (is_awaited s (g ++ h)) (length s.steps)
    (λ k awaited. grind (arith, list_any-append (finishes k) g h)) in
    omega (arith, ints, l)

-- whatever the test of what is done
pub decides_where : (s : Schedule) (done : ℕ → Bool) (op : ℕ) → (step_of s op).t_d ≤ MAX_TIME
    → ((step_of s op).dependent ≡ true → (k : ℕ) → is_dependency s k ≡ true → (step_of s k).t ≤ (step_of s op).t_d → done k ≡ true)
    ↔ ((step_of s op).dependent ≡ true → pos (step_of s op).t_d ≤ℤ time_left s done)
decides_where s done op small = (
  λ cleared dependent. at_most_before (step_of s op).t_d (least_t s (is_left s done))
      (le-least_of (λ k. (step_of s k).t) (MAX_TIME + 1) (is_left s done) (length s.steps) (suc (step_of s op).t_d) (omega arith)
      (λ k lt left. let parts = and_parts (is_dependency s k) (not (done k)) left in
      elim (cases_lt (step_of s op).t_d (step_of s k).t) [
        | inl later ↦ omega arith
        | inr due ↦ absurd (let f : done k ≡ true = cleared dependent k parts.0 due in let n = not-true (done k) parts.1 in cc)
      ])),
  λ told dependent k dep due.
      elim (cases_Bool (done k)) [
        | inl over ↦ over
        | inr waits ↦ absurd (
            let l = least_of-le (λ k. (step_of s k).t) (MAX_TIME + 1) (is_left s done) (length s.steps) k (is_dependency-within s k dep)
            (and_from (is_dependency s k) (not (done k)) dep (ap not waits)) in
            let b = below_from_at_most (step_of s op).t_d (least_t s (is_left s done)) (told dependent) in
            omega arith)
      ],
)

-- a dependent is cleared exactly where its t_d is at most the completion time
pub completion_decides : CompletionDecides
completion_decides s h op small = decides_where s (finished h) op small

-- a least value is told by the tests of the numbers below n
pub least_of-same : (f : ℕ → ℕ) (top : ℕ) (p q : ℕ → Bool) (n : ℕ) → ((k : ℕ) → k < n → p k ≡ q k) → least_of f top p n ≡ least_of f top q n
least_of-same f top p q zero same = refl
least_of-same f top p q (suc n) same =
    let here : p n ≡ q n = same n (omega arith) in
    let rest : least_of f top p n ≡ least_of f top q n = least_of-same f top p q n (λ k lt. same k (omega arith)) in
    rw (here, rest)

-- completion times are told by the tests of the operations
pub time_left-same : (s : Schedule) (p q : ℕ → Bool) → ((k : ℕ) → IsOperation s k → p k ≡ q k) → time_left s p ≡ time_left s q
time_left-same s p q same =
    ap (λ (n : ℕ). pos n -ℤ pos 1)
    (least_of-same (λ k. (step_of s k).t) (MAX_TIME + 1) (is_left s p) (is_left s q) (length s.steps) (λ k lt. ap (λ b. (step_of s k).dependency && not b) (same k lt)))

pub completion_is_reached : CompletionIsReached
completion_is_reached s h =
    elim (least_of-reached (λ k. (step_of s k).t) (MAX_TIME + 1) (is_awaited s h) (length s.steps)) [
      | inl top ↦ inl (omega (arith, ints, top))
      | inr w ↦
          let parts = and_parts (is_dependency s w.0) (not (finished h w.0)) w.2 in
          inr (w.0, parts.0, not-true (finished h w.0) parts.1, let e = w.3 in omega (arith, ints, e))
    ]

-- a test that passes less has a later least time
local_later : (s : Schedule) (h : List Event) (lane : ℕ) → completion s h ≤ℤ local s h lane
local_later s h lane =
    let l = least_of-weaker (λ k. (step_of s k).t) (MAX_TIME + 1) (is_awaited s h) (λ k. ((step_of s k).lane == lane) && is_awaited s h k) (length s.steps)
    (λ k both. (and_parts ((step_of s k).lane == lane) (is_awaited s h k) both).1) in
    omega (arith, ints, l)

pub completion_is_local : CompletionIsLocal
completion_is_local s h = (
  local_later s h,
  elim (least_of-reached (λ k. (step_of s k).t) (MAX_TIME + 1) (is_awaited s h) (length s.steps)) [
    | inl top ↦ inl (omega (arith, ints, top))
    | inr w ↦
        let lane : ℕ = (step_of s w.0).lane in
        let l = least_of-le (λ k. (step_of s k).t) (MAX_TIME + 1) (λ k. ((step_of s k).lane == lane) && is_awaited s h k) (length s.steps) w.0 w.1
        (and_from ((step_of s w.0).lane == lane) (is_awaited s h w.0) (eq-eqb lane lane refl) w.2) in
        let e = w.3 in
        let more = local_later s h lane in
        inr (lane, omega (arith, ints, l, e, more))
  ],
)

pub start_stays : StartStays
start_stays [] h k begun = absurd cc
start_stays (e ∷ g) h k begun = let ih = start_stays g h k in grind arith

pub before_is_by_place : BeforeIsByPlace
before_is_by_place s j k placed within_j within_k = (
  λ before. (before.1, placed.rises j k before.0 within_k before.1),
  λ below. elim (cases_order j k) [
    | inl same ↦ absurd (let e : (step_of s j).place ≡ (step_of s k).place = ap (λ i. (step_of s i).place) same in let lt = below.1 in omega arith)
    | inr apart ↦ elim apart [
      | inl lower ↦ (lower, below.0)
      | inr higher ↦ absurd (let a = placed.rises k j higher within_j (sym below.0) in let lt = below.1 in omega arith)
    ]
  ],
)
