-- The numbers of a lane's operations among the first n.
use Rattle.std.proofs.Common.{◌≡◌, ℕ, ◌+◌, ◌<◌, List, [], ◌∷◌, ◌++◌, length, get_or, inl, inr, refl, sym, ap, ◌∙◌, subst, arith, length-append}
use Rattle.std.specs.Prelude.{◌==◌, slice_index, Contains}
use Rattle.std.specs.List.Sorted.{IsStrictlyIncreasing}
use Rattle.std.proofs.lemmas.Bool.{cases_lt, eq-eqb, ne_eqb}
use Rattle.std.proofs.lemmas.List.{get_or_append_left}
use Rattle.std.proofs.Math.Seq.{get_or-append_seam}
use Rattle.std.proofs.lemmas.Grind.{get_or_default_zero}
use Rattle.std.proofs.lemmas.List.Elements.{Contains-append_left, Contains-push}
use Rattle.std.proofs.lemmas.List.Sums.{count_by_more_yes, count_by_more_no}
use Rattle.snb_history.specs.declared.step.Step.{Step}
use Rattle.snb_history.specs.Schedule.{Schedule, step_of, no_step, count_before, IsOperation, IsLane}

-- the operation stands in the lane, before number n, at this place
pub record IsAt (s : Schedule) (lane n i k : ℕ) : Type 0 where
  pub below : k < n
  pub in_lane : (step_of s k).lane ≡ lane
  pub place : (step_of s k).place ≡ i

-- these are the numbers of the lane's operations below n, rising
pub record IsLanePrefix (s : Schedule) (lane n : ℕ) (numbers : List ℕ) : Type 0 where
  pub counted : length numbers ≡ count_before s lane n
  pub rising : IsStrictlyIncreasing numbers
  pub theirs : (i : ℕ) → i < length numbers → IsAt s lane n i (slice_index numbers i)
  pub all : (k : ℕ) → k < n → (step_of s k).lane ≡ lane → Contains numbers k

pub IsLanePrefix-nil : (s : Schedule) (lane : ℕ) → IsLanePrefix s lane 0 []
IsLanePrefix-nil s lane = record {
  counted = refl;
  rising = λ k lt. absurd (omega arith);
  theirs = λ i lt. absurd (omega arith);
  all = λ k lt same. absurd (omega arith);
}

-- the next operation is of another lane
pub IsLanePrefix-miss : (s : Schedule) (lane n : ℕ) (numbers : List ℕ) → IsLanePrefix s lane n numbers → n < length s.steps → ((step_of s n).lane ≡ lane → ⊥)
    → IsLanePrefix s lane (n + 1) numbers
IsLanePrefix-miss s lane n numbers p within other = record {
  counted = p.counted ∙ sym (count_by_more_no (λ (step : Step). step.lane == lane) s.steps n no_step within (ne_eqb (step_of s n).lane lane other));
  rising = p.rising;
  theirs = λ i lt. let a = p.theirs i lt in record { below = (let b = a.below in omega arith); in_lane = a.in_lane; place = a.place };
  all = λ k lt same.
      elim (cases_lt k n) [
        | inl below ↦ p.all k below same
        | inr here ↦ absurd (other (let e : k ≡ n = omega arith in subst (λ (i : ℕ). (step_of s i).lane ≡ lane) e same))
      ];
}

rising-push : (numbers : List ℕ) (n : ℕ) → IsStrictlyIncreasing numbers → ((i : ℕ) → i < length numbers → slice_index numbers i < n) → IsStrictlyIncreasing (numbers ++ n ∷ [])
rising-push numbers n rising below k lt =
    let size = length-append numbers (n ∷ []) in
    let here = get_or_append_left numbers (n ∷ []) 0 k (omega arith) in
    elim (cases_lt (k + 1) (length numbers)) [
      | inl within ↦ (let next = get_or_append_left numbers (n ∷ []) 0 (k + 1) within in let r = rising k within in rw (here, next) r)
      | inr end ↦
          let e : k + 1 ≡ length numbers = omega arith in
          let next : get_or (numbers ++ n ∷ []) (k + 1) 0 ≡ n = rw e (get_or-append_seam numbers n [] 0) in
          rw (here, next) (below k (omega arith))
    ]

-- the next operation is of the lane
pub IsLanePrefix-hit : (s : Schedule) (lane n : ℕ) (numbers : List ℕ) → IsLanePrefix s lane n numbers → n < length s.steps → (step_of s n).lane ≡ lane
    → (step_of s n).place ≡ count_before s (step_of s n).lane n → IsLanePrefix s lane (n + 1) (numbers ++ n ∷ [])
IsLanePrefix-hit s lane n numbers p within same placed = record {
  counted =
      length-append numbers (n ∷ []) ∙ ap (λ x. x + 1) p.counted
      ∙ sym (count_by_more_yes (λ (step : Step). step.lane == lane) s.steps n no_step within (eq-eqb (step_of s n).lane lane same));
  rising = rising-push numbers n p.rising (λ i lt. (p.theirs i lt).below);
  theirs = λ i lt.
      elim (cases_lt i (length numbers)) [
        | inl old ↦
            let a = p.theirs i old in
            let e = get_or_append_left numbers (n ∷ []) 0 i old in
            subst (λ (k : ℕ). IsAt s lane (n + 1) i k) (sym e) (record { below = (let b = a.below in omega arith); in_lane = a.in_lane; place = a.place })
        | inr new ↦
            let e : i ≡ length numbers = (let size = length-append numbers (n ∷ []) in omega arith) in
            let f : get_or (numbers ++ n ∷ []) i 0 ≡ n = rw e (get_or-append_seam numbers n [] 0) in
            subst (λ (k : ℕ). IsAt s lane (n + 1) i k) (sym f)
            (record { below = omega arith; in_lane = same; place = placed ∙ ap (λ l. count_before s l n) same ∙ sym p.counted ∙ sym e })
      ];
  all = λ k lt at.
      elim (cases_lt k n) [
        | inl below ↦ Contains-append_left numbers (n ∷ []) k (p.all k below at)
        | inr here ↦ (let e : n ≡ k = omega arith in subst (λ (i : ℕ). Contains (numbers ++ n ∷ []) i) e (Contains-push numbers n))
      ];
}

-- the numbers below the length are those of the lane
pub IsLane-from_prefix : (s : Schedule) (lane : ℕ) (numbers : List ℕ) → IsLanePrefix s lane (length s.steps) numbers → IsLane s lane numbers
IsLane-from_prefix s lane numbers p = record {
  rising = p.rising;
  theirs = λ k. (λ has. from k has, λ own. p.all k own.0 own.1);
  placed = λ i lt. (p.theirs i lt).place;
}
  where
    get_or_any : (xs : List ℕ) (i : ℕ) → i < length xs → (x : ℕ) → get_or xs i x ≡ x → get_or xs i 0 ≡ x
    get_or_any xs i lt x q = sym (get_or_default_zero xs i x lt) ∙ q

    from : (k : ℕ) → Contains numbers k → IsOperation s k × ((step_of s k).lane ≡ lane)
    from k has =
        let e : get_or numbers has.0 0 ≡ k = get_or_any numbers has.0 has.1 k has.2 in
        let a = p.theirs has.0 has.1 in
        subst (λ (j : ℕ). IsOperation s j × ((step_of s j).lane ≡ lane)) e (a.below, a.in_lane)
