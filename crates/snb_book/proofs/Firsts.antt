-- The first of those with a property, lane by lane.
use Rattle.std.proofs.Common.{◌≡◌, ℕ, ◌+◌, ◌<◌, ◌≤◌, List, Bool, true, false, inl, inr, refl, sym, ap, ◌∙◌, subst, arith, Option, Some, None}
use Rattle.std.specs.Prelude.{slice_index}
use Rattle.std.proofs.lemmas.Bool.{cases_lt}
use Rattle.std.proofs.lemmas.Bool.Decides.{nat_tests}
use Rattle.snb_history.specs.Schedule.{Schedule, step_of, IsPlanned}
use Rattle.snb_book.specs.Book.{IsNext}
use Rattle.snb_book.specs.Claims.{ComesFirst, IsFirst}
use Rattle.snb_book.specs.Heads.{IsAtPlace, IsPassed, IsLate, TellsFirst, TellsFirstBelow, earlier_of, earlier_where}
use Rattle.snb_book.proofs.Places.{same_place}

-- of two properties that hold of the same ones the first is the same
pub TellsFirst-same : (s : Schedule) (P Q : ℕ → Type 0) (first : Option ℕ) → ((j : ℕ) → P j → Q j) → ((j : ℕ) → Q j → P j) → TellsFirst s P first → TellsFirst s Q first
TellsFirst-same s P Q None to from none = λ j q. none j (from j q)
TellsFirst-same s P Q (Some op) to from is = (to op is.0, λ j q. is.1 j (from j q))

pub due_no_later : (s : Schedule) (op j : ℕ) → ComesFirst s op j → (step_of s op).due ≤ (step_of s j).due
due_no_later s op j (inl less) = omega arith
due_no_later s op j (inr same) = (let e = same.0 in omega arith)

-- of those that are due, where the first of all is due, and else none
pub first_due : (s : Schedule) (P : ℕ → Type 0) (at op : ℕ) → TellsFirst s P (Some op) → (step_of s op).due ≤ at → IsFirst s (λ j. P j × ((step_of s j).due ≤ at)) op
first_due s P at op is due = ((is.0, due), λ j q. is.1 j q.0)

pub none_due : (s : Schedule) (P : ℕ → Type 0) (at : ℕ) (first : Option ℕ) → TellsFirst s P first → IsLate s at first → (j : ℕ) → P j → (step_of s j).due ≤ at → ⊥
none_due s P at None none late j p due = none j p
none_due s P at (Some op) is late j p due =
    let l = late op refl in let d = due_no_later s op j (is.1 j p) in omega arith

-- a lane that has none changes nothing
pub below_skip : (s : Schedule) (P : ℕ → Type 0) (n : ℕ) (first : Option ℕ) → ((j : ℕ) → P j → (step_of s j).lane ≡ n → ⊥)
    → TellsFirstBelow s P n first → TellsFirstBelow s P (n + 1) first
below_skip s P n first none is =
    TellsFirst-same s (λ j. P j × ((step_of s j).lane < n)) (λ j. P j × ((step_of s j).lane < n + 1)) first
    (λ j q. (q.0, let l = q.1 in omega arith))
    (λ j q. (
      q.0,
      elim (cases_lt (step_of s j).lane n) [
        | inl below ↦ below
        | inr here ↦ absurd (none j q.0 (let l = q.1 in omega arith))
      ],
    ))
    is

first_alone : (s : Schedule) (op j : ℕ) → op ≡ j → ComesFirst s op j
first_alone s op j e = subst (λ (i : ℕ). ComesFirst s op i) e (inr (refl, omega arith))

-- the one of the next lane is weighed against the first so far
below_take : (s : Schedule) (P : ℕ → Type 0) (n : ℕ) (first : Option ℕ) (op : ℕ) → P op → (step_of s op).lane ≡ n → ((j : ℕ) → P j → (step_of s j).lane ≡ n → op ≡ j)
    → TellsFirstBelow s P n first → TellsFirstBelow s P (n + 1) (Some (earlier_of s.steps first op))
below_take s P n None op has lane alone none = (
  (has, omega arith),
  λ j q. elim (cases_lt (step_of s j).lane n) [
    | inl below ↦ absurd (none j (q.0, below))
    | inr here ↦ first_alone s op j (alone j q.0 (let l = q.1 in omega arith))
  ],
)
below_take s P n (Some best) op has lane alone is =
    let low = is.0.1 in
    elim (cases_lt (step_of s op).due (step_of s best).due) [
      | inl less ↦
          let e : earlier_of s.steps (Some best) op ≡ op = grind (arith, nat_tests) in
          subst (λ (i : ℕ). IsFirst s (λ j. P j × ((step_of s j).lane < n + 1)) i) (sym e) (
            (has, omega arith),
            λ j q. elim (cases_lt (step_of s j).lane n) [
              | inl below ↦ (let d = due_no_later s best j (is.1 j (q.0, below)) in inl (omega arith))
              | inr here ↦ first_alone s op j (alone j q.0 (let l = q.1 in omega arith))
            ],
          )
      | inr more ↦
          let e : earlier_of s.steps (Some best) op ≡ best = grind (arith, nat_tests) in
          subst (λ (i : ℕ). IsFirst s (λ j. P j × ((step_of s j).lane < n + 1)) i) (sym e) (
            (is.0.0, omega arith),
            λ j q. elim (cases_lt (step_of s j).lane n) [
              | inl below ↦ is.1 j (q.0, below)
              | inr here ↦
                  let one = alone j q.0 (let l = q.1 in omega arith) in
                  subst (λ (i : ℕ). ComesFirst s best i) one
                  (elim (cases_lt (step_of s best).due (step_of s op).due) [ inl earlier ↦ inl earlier | inr even ↦ inr (omega arith, omega arith) ])
            ],
          )
    ]

-- where it counts
pub below_next : (s : Schedule) (P : ℕ → Type 0) (n : ℕ) (first : Option ℕ) (op : ℕ) (counts : Bool) → (counts ≡ true → P op) → (P op → counts ≡ true)
    → (step_of s op).lane ≡ n → ((j : ℕ) → P j → (step_of s j).lane ≡ n → op ≡ j)
    → TellsFirstBelow s P n first → TellsFirstBelow s P (n + 1) (earlier_where s.steps first op counts)
below_next s P n first op true to from lane alone is = below_take s P n first op (to refl) lane alone is
below_next s P n first op false to from lane alone is =
    below_skip s P n first (λ j p here. absurd (let e = from (subst P (sym (alone j p here)) p) in cc)) is

-- the next of a lane stands at its place
next_at : (s : Schedule) (heads : List ℕ) (n j : ℕ) → IsNext s heads j → (step_of s j).lane ≡ n → IsAtPlace s n (slice_index heads n) j
next_at s heads n j next lane = record { within = next.0; in_lane = lane; placed = next.1 ∙ ap (λ l. slice_index heads l) lane }

-- and a lane that is passed has none
pub none_next : (s : Schedule) (heads : List ℕ) (n : ℕ) → IsPassed s n (slice_index heads n) → (j : ℕ) → IsNext s heads j → (step_of s j).lane ≡ n → ⊥
none_next s heads n passed j next lane =
    let at = (next_at s heads n j next lane).placed in let less = passed.before j next.0 lane in omega arith

pub at_next : (s : Schedule) (heads : List ℕ) (n op : ℕ) → IsAtPlace s n (slice_index heads n) op → IsNext s heads op
at_next s heads n op at = (at.within, at.placed ∙ ap (λ l. slice_index heads l) (sym at.in_lane))

pub one_next : (s : Schedule) (heads : List ℕ) → IsPlanned s → (n op : ℕ) → IsAtPlace s n (slice_index heads n) op → (j : ℕ) → IsNext s heads j → (step_of s j).lane ≡ n → op ≡ j
one_next s heads planned n op at j next lane =
    let there = next_at s heads n j next lane in
    same_place s planned op j at.within next.0 (at.in_lane ∙ sym lane) (at.placed ∙ sym there.placed)
