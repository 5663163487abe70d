-- How often numbers stand in a list. Where two lists of numbers have the same ones, each as often, what these give is the same in another order.
use Rattle.std.proofs.Common.{◌≡◌, ◌∷◌, ◌++◌, ◌∙◌, ℕ, zero, suc, ◌+◌, ◌<◌, ◌≤◌, List, [], cond, Bool, true, false, inl, inr, refl, sym, ap, subst, arith}
use Rattle.std.specs.Prelude.{◌==◌}
use Rattle.std.specs.List.{flat_map}
use Rattle.std.specs.List.Sorted.{IsPermutation}
use Rattle.std.proofs.lemmas.Bool.{cases_eq, cases_lt}
use Rattle.std.proofs.lemmas.Bool.Decides.{nat_tests}
use Rattle.std.proofs.lemmas.List.Concat.{flat_map-append}
use Rattle.std.proofs.lemmas.List.Sorted.{IsPermutation-append_right, IsPermutation-refl, IsPermutation-trans}
use Rattle.snb_base.proofs.Laws.{shuffled}

-- how often a number stands in a list
abbrev pub times : ℕ → List ℕ → ℕ
times k [] = 0
times k (x ∷ xs) = cond (x == k) (suc (times k xs)) (times k xs)

times-middle : (k : ℕ) (a : List ℕ) (x : ℕ) (b : List ℕ) → times k (a ++ x ∷ b) ≡ cond (x == k) (suc (times k (a ++ b))) (times k (a ++ b))
times-middle k [] x b = refl
times-middle k (y ∷ a) x b =
    ap (λ (n : ℕ). cond (y == k) (suc n) n) (times-middle k a x b) ∙ by (y == k) (x == k) (times k (a ++ b))
  where
    by : (p q : Bool) (n : ℕ) → cond p (suc (cond q (suc n) n)) (cond q (suc n) n) ≡ cond q (suc (cond p (suc n) n)) (cond p (suc n) n)
    by true true n = refl
    by true false n = refl
    by false true n = refl
    by false false n = refl

-- a number that stands in a list
stands : (k : ℕ) (xs : List ℕ) → 0 < times k xs → (a : List ℕ) × (b : List ℕ) × (a ++ k ∷ b ≡ xs)
stands k [] lt = absurd (omega (arith, lt))
stands k (x ∷ xs) lt = elim (cases_eq x k) [
  | inl e ↦ ([], xs, ap (λ (n : ℕ). n ∷ xs) (sym e))
  | inr differ ↦ (let w = stands k xs (grind (arith, nat_tests)) in (x ∷ w.0, w.1, ap (λ (l : List ℕ). x ∷ l) w.2))
]

same_less : (p : Bool) (m n : ℕ) → cond p (suc m) m ≡ cond p (suc n) n → m ≡ n
same_less true m n e = omega (arith, e)
same_less false m n e = e

times-here : (k : ℕ) (xs : List ℕ) → 0 < times k (k ∷ xs)
times-here k xs = grind (arith, nat_tests)

-- lists that have the same numbers, each as often
pub moved : {X : Type 0} (f : ℕ → List X) (xs ys : List ℕ) → ((k : ℕ) → times k xs ≡ times k ys) → IsPermutation (flat_map f xs) (flat_map f ys)
moved f [] [] same = IsPermutation-refl []
moved f [] (y ∷ ys) same = absurd (let e = same y in let lt = times-here y ys in omega (arith, e, lt))
moved {X} f (x ∷ xs) ys same =
    let e = same x in
    let here = times-here x xs in
    let w = stands x ys (omega (arith, e, here)) in
    let rest : (k : ℕ) → times k xs ≡ times k (w.0 ++ w.1) =
    λ k. same_less (x == k) (times k xs) (times k (w.0 ++ w.1)) (same k ∙ (ap (times k) (sym w.2) ∙ times-middle k w.0 x w.1)) in
    let inner : IsPermutation (flat_map f xs) (flat_map f w.0 ++ flat_map f w.1) =
    subst (λ (l : List X). IsPermutation (flat_map f xs) l) (flat_map-append f w.0 w.1) (moved f xs (w.0 ++ w.1) rest) in
    subst (λ (l : List X). IsPermutation (f x ++ flat_map f xs) l) (sym (flat_map-append f w.0 (x ∷ w.1)) ∙ ap (flat_map f) w.2)
    (IsPermutation-trans (f x ++ flat_map f xs) (f x ++ (flat_map f w.0 ++ flat_map f w.1)) (flat_map f w.0 ++ (f x ++ flat_map f w.1))
    (IsPermutation-append_right (f x) (flat_map f xs) (flat_map f w.0 ++ flat_map f w.1) inner)
    (shuffled (f x) (flat_map f w.0) (flat_map f w.1)))

-- ---- numbers in turn

-- so many numbers from one on
abbrev pub from : ℕ → ℕ → List ℕ
from i zero = []
from i (suc n) = i ∷ from (suc i) n

below_none : (k i n : ℕ) → k < i → times k (from i n) ≡ 0
below_none k i zero lt = refl
below_none k i (suc n) lt = (let rest = below_none k (suc i) n (omega (arith, lt)) in grind (arith, nat_tests))

pub above_none : (k i n : ℕ) → i + n ≤ k → times k (from i n) ≡ 0
above_none k i zero le = refl
above_none k i (suc n) le =
    (let rest = above_none k (suc i) n (omega (arith, le)) in let lt : i < k = omega (arith, le) in grind (arith, nat_tests))

pub within_once : (k i n : ℕ) → i ≤ k → k < i + n → times k (from i n) ≡ 1
within_once k i zero le lt = absurd (omega (arith, le, lt))
within_once k i (suc n) le lt = elim (cases_lt i k) [
  | inl after ↦ (let rest = within_once k (suc i) n (omega (arith, after)) (omega (arith, lt)) in grind (arith, nat_tests))
  | inr ge ↦ (let here : i ≡ k = omega (arith, le, ge) in let rest = below_none k (suc i) n (omega (arith, here)) in grind (arith, nat_tests))
]
