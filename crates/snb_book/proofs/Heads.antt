-- The heads of the lanes, by the place that is kept for each.
use Rattle.std.proofs.Common.{◌≡◌, ℕ, ◌≤◌, List, false, inl, inr, sym, ap, ◌∙◌, arith}
use Rattle.std.specs.Prelude.{nat_lt, slice_index, ◌⊎◌}
use Rattle.std.proofs.lemmas.Bool.{cases_lt}
use Rattle.std.proofs.lemmas.Bool.Decides.{nat_tests}
use Rattle.snb_history.specs.declared.event.Event.{Event}
use Rattle.snb_history.specs.Schedule.{Schedule, step_of, IsOperation, IsBefore, IsPlanned}
use Rattle.snb_history.specs.History.{started}
use Rattle.snb_book.specs.Claims.{IsPlanHead}
use Rattle.snb_book.specs.Book.{IsNext}
use Rattle.snb_book.proofs.Places.{earlier_place}
use Rattle.snb_history.proofs.Laws.{planned_is_placed}

-- what is started stands before the place that is kept for its lane
abbrev pub Begins : Schedule → List Event → List ℕ → Type 0
Begins s h heads = (k : ℕ) → IsOperation s k → started h k ≡ nat_lt (step_of s k).place (slice_index heads (step_of s k).lane)

pub head_from_next : (s : Schedule) (h : List Event) (heads : List ℕ) → IsPlanned s → Begins s h heads → (k : ℕ) → IsNext s heads k → IsPlanHead s h k
head_from_next s h heads planned begins k next = (
  next.0,
  record {
    fresh = (let b = begins k next.0 in let e = next.1 in grind (arith, nat_tests));
    led = λ j before.
        let within : IsOperation s j = (let w = next.0 in let l = before.0 in omega arith) in
        let b = begins j within in
        let lower = (planned_is_placed s planned).rises j k before.0 next.0 before.1 in
        let e : (step_of s k).place ≡ slice_index heads (step_of s j).lane = next.1 ∙ ap (λ l. slice_index heads l) (sym before.1) in
        grind (arith, nat_tests);
  },
)

-- a fresh operation stands at its lane's place, or one before it does
next_or_before : (s : Schedule) (h : List Event) (heads : List ℕ) → IsPlanned s → Begins s h heads → (k : ℕ) → IsOperation s k → started h k ≡ false
    → IsNext s heads k ⊎ ((j : ℕ) × IsBefore s j k × IsNext s heads j)
next_or_before s h heads planned begins k within fresh =
    let p : ℕ = slice_index heads (step_of s k).lane in
    let b = begins k within in
    let above : p ≤ (step_of s k).place = grind (arith, nat_tests) in
    elim (cases_lt p (step_of s k).place) [
      | inl less ↦
          let r = earlier_place s planned k p within less in
          let before : IsBefore s r.0 k = r.1 in
          inr (r.0, before, ((let l = before.0 in omega arith), r.2 ∙ ap (λ l. slice_index heads l) (sym before.1)))
      | inr more ↦ inl (within, omega arith)
    ]

fresh_next : (s : Schedule) (h : List Event) (heads : List ℕ) → Begins s h heads → (k : ℕ) → IsNext s heads k → started h k ≡ false
fresh_next s h heads begins k next = let b = begins k next.0 in let e = next.1 in grind (arith, nat_tests)

pub next_from_head : (s : Schedule) (h : List Event) (heads : List ℕ) → IsPlanned s → Begins s h heads → (k : ℕ) → IsPlanHead s h k → IsNext s heads k
next_from_head s h heads planned begins k head =
    elim (next_or_before s h heads planned begins k head.0 head.1.fresh) [
      | inl next ↦ next
      | inr earlier ↦ absurd (let a = head.1.led earlier.0 earlier.1 in let b = fresh_next s h heads begins earlier.0 earlier.2 in cc)
    ]
