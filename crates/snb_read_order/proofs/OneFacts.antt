-- Two sorted lists of the same rows are one list.
use Rattle.std.proofs.Common.{◌≡◌, ℕ, zero, suc, ◌+◌, ◌<◌, Bool, true, false, cond, List, [], ◌∷◌, length, get_or, refl, sym, ap, ◌∙◌, arith, add-one}
use Rattle.std.proofs.lemmas.Cmp.{tied_itself}
use Rattle.std.proofs.lemmas.List.{get_or_default}
use Rattle.std.proofs.lemmas.List.Sorted.{Contains-permutation, IsPermutation-sym, ranks_by, sorted_far, sum_by-IsPermutation}
use Rattle.std.proofs.lemmas.List.Sums.{sum_by-cons}
use Rattle.std.specs.Cmp.{IsTotalOrder}
use Rattle.std.specs.List.{Contains, sum_by}
use Rattle.std.specs.List.Sorted.{IsSorted}
use Rattle.std.specs.Ordering.{is_eq, is_lt, ordering_reverse}
use Rattle.std.specs.declared.cmp.Ordering.{Ordering}
use Rattle.std.specs.declared.cmp.Ordering.TheVariants.{Less, Equal, Greater}
use Rattle.snb_read_model.specs.Order.{Cut, SortedAndCut, cut_at}
use Rattle.snb_base.proofs.Laws.{equal_from}

-- how many elements compare equal to x
abbrev ties : {X : Type 0} → (X → X → Ordering) → X → List X → ℕ
ties R x [] = 0
ties R x (y ∷ ys) = cond (is_eq (R x y)) 1 0 + ties R x ys

ties_are : {X : Type 0} (R : X → X → Ordering) (x : X) (ys : List X) → ties R x ys ≡ sum_by (λ y. cond (is_eq (R x y)) 1 0) ys
ties_are R x [] = refl
ties_are R x (y ∷ ys) = ap (λ n. cond (is_eq (R x y)) 1 0 + n) (ties_are R x ys) ∙ sym (sum_by-cons (λ z. cond (is_eq (R x z)) 1 0) y ys)

-- neither is below the other
level : (r s : Ordering) → r ≡ ordering_reverse s → is_lt r ≡ false → is_lt s ≡ false → r ≡ Equal
level Less s e p q = cc
level Equal s e p q = refl
level Greater Less e p q = cc
level Greater Equal e p q = cc
level Greater Greater e p q = cc

-- some element compares equal
pub found : {X : Type 0} (R : X → X → Ordering) (x : X) (ys : List X) → 0 < ties R x ys → (k : ℕ) × (k < length ys) × ((d : X) → R x (get_or ys k d) ≡ Equal)
found R x [] h = absurd (omega arith)
found R x (y ∷ ys) h = by_test (is_eq (R x y)) refl (found R x ys)
  where
    by_test : (b : Bool) → is_eq (R x y) ≡ b → (0 < ties R x ys → (k : ℕ) × (k < length ys) × ((d : _) → R x (get_or ys k d) ≡ Equal))
        → (k : ℕ) × (k < suc (length ys)) × ((d : _) → R x (get_or (y ∷ ys) k d) ≡ Equal)
    by_test true e rest = (zero, omega arith, λ d. equal_from (R x y) e)
    by_test false e rest =
        let more : 0 < ties R x ys = omega (arith, rw e at h) in
        let (k, small, is) = rest more in
        (suc k, omega arith, is)

pub sorted_tail : {X : Type 0} (R : X → X → Ordering) (x : X) (xs : List X) → IsSorted R (x ∷ xs) → IsSorted R xs
sorted_tail R x xs up k d low high = rw add-one (rw add-one at (up (suc k) d (omega arith) (omega arith)))

get_or_here : {X : Type 0} (xs : List X) (k : ℕ) (d : X) → k < length xs → get_or xs k (get_or xs k d) ≡ get_or xs k d
get_or_here xs k d small = get_or_default xs k (get_or xs k d) d small

module _ {X : Type 0} (R : X → X → Ordering) (o : IsTotalOrder R) where
  -- the head is at most each element
  head_low : (x : X) (xs : List X) (k : ℕ) → IsSorted R (x ∷ xs) → k < suc (length xs) → is_lt (R (get_or (x ∷ xs) k x) x) ≡ false
  head_low x xs k up small = sorted_far (λ a b. is_lt (R a b)) (ranks_by o (λ a. a)) (x ∷ xs) up 0 k x (omega arith) small

  -- the head of one is at most that of the other, if something there ties with it
  below : (x y : X) (ys : List X) → IsSorted R (y ∷ ys) → 0 < ties R x (y ∷ ys) → is_lt (R x y) ≡ false
  below x y ys up some =
      let (k, small, is) = found R x (y ∷ ys) some in
      ap is_lt (o.congr x (get_or (y ∷ ys) k y) y (is y)) ∙ head_low y ys k up small

  own : (x : X) (xs : List X) → 0 < ties R x (x ∷ xs)
  own x xs = rw (tied_itself o x) (omega arith)

  pub same_sorted : (s t : List X) → IsSorted R s → IsSorted R t → ((x : X) → ties R x s ≡ ties R x t)
      → ((k : ℕ) (j : ℕ) (d : X) → k < length s → j < length t → R (get_or s k d) (get_or t j d) ≡ Equal → get_or s k d ≡ get_or t j d) → s ≡ t
  same_sorted [] [] up up' counts one = refl
  same_sorted [] (y ∷ t) up up' counts one = absurd (omega (arith, own y t, counts y))
  same_sorted (x ∷ s) [] up up' counts one = absurd (omega (arith, own x s, counts x))
  same_sorted (x ∷ s) (y ∷ t) up up' counts one =
      let right : 0 < ties R x (y ∷ t) = omega (arith, own x s, counts x) in
      let left : 0 < ties R y (x ∷ s) = omega (arith, own y t, counts y) in
      let equal = level (R x y) (R y x) (o.antisymm x y) (below x y t up' right) (below y x s up left) in
      let heads : x ≡ y = one 0 0 x (omega arith) (omega arith) equal in
      let counts' : (z : X) → ties R z s ≡ ties R z t = λ z. omega (arith, counts z, ap {B = ℕ} (λ w. cond (is_eq (R z w)) 1 0) heads) in
      let tails : s ≡ t = same_sorted s t (sorted_tail R x s up) (sorted_tail R y t up') counts'
      (λ k j d small small' e. one (suc k) (suc j) d (omega arith) (omega arith) e) in
      cc

  pub one_first : (cut : Cut) (rows a b : List X) → ((x y : X) → Contains rows x → Contains rows y → R x y ≡ Equal → x ≡ y)
      → SortedAndCut R cut rows a → SortedAndCut R cut rows b → a ≡ b
  one_first cut rows a b one f g =
      let same : f.sorted ≡ g.sorted = same_sorted f.sorted g.sorted f.ordered g.ordered
      (λ x. ties_are R x f.sorted ∙ sum_by-IsPermutation _ rows f.sorted f.same ∙ sym (sum_by-IsPermutation _ rows g.sorted g.same) ∙ sym (ties_are R x g.sorted))
      (λ k j d small small' e. one _ _ (Contains-permutation f.sorted rows _ (IsPermutation-sym rows f.sorted f.same) (k, small, get_or_here f.sorted k d small))
      (Contains-permutation g.sorted rows _ (IsPermutation-sym rows g.sorted g.same) (j, small', get_or_here g.sorted j d small')) e) in
      f.kept ∙ ap (cut_at cut) same ∙ sym g.kept
