-- Rows can be put into an order.
use Rattle.std.proofs.Common.{◌≡◌, zero, suc, Bool, true, false, cond, List, [], ◌∷◌, refl, arith, add-one}
use Rattle.std.proofs.lemmas.List.Sorted.{IsPermutation-append_comm, IsPermutation-append_left, IsPermutation-cons, IsPermutation-refl, IsPermutation-trans, ranks_by}
use Rattle.std.specs.Cmp.{IsTotalOrder}
use Rattle.std.specs.List.{AllByRecursion}
use Rattle.std.specs.List.Sorted.{IsPermutation, IsSorted}
use Rattle.std.specs.Ordering.{is_lt}
use Rattle.std.specs.declared.cmp.Ordering.{Ordering}
use Rattle.snb_read_model.specs.Order.{Cut, SortedAndCut, cut_at}

module _ {X : Type 0} (R : X → X → Ordering) (o : IsTotalOrder R) where
  -- none of the rows is below the first, and so on
  abbrev Rises : List X → Type 0
  Rises [] = Unit {0}
  Rises (x ∷ xs) = AllByRecursion (λ y. is_lt (R y x) ≡ false) xs × Rises xs

  abbrev insert : X → List X → List X
  insert x [] = x ∷ []
  insert x (y ∷ ys) = cond (is_lt (R y x)) (y ∷ insert x ys) (x ∷ y ∷ ys)

  insert_moves : (x : X) (ys : List X) → IsPermutation (x ∷ ys) (insert x ys)
  insert_moves x [] = IsPermutation-refl (x ∷ [])
  insert_moves x (y ∷ ys) = by_test (is_lt (R y x)) (insert_moves x ys)
    where
      by_test : (b : Bool) → IsPermutation (x ∷ ys) (insert x ys) → IsPermutation (x ∷ y ∷ ys) (cond b (y ∷ insert x ys) (x ∷ y ∷ ys))
      by_test true rest = IsPermutation-trans _ _ _ (IsPermutation-append_left ys (x ∷ y ∷ []) (y ∷ x ∷ []) (IsPermutation-append_comm (x ∷ []) (y ∷ []))) (IsPermutation-cons y _ _ rest)
      by_test false rest = IsPermutation-refl _

  all_insert : (P : X → Type 0) (x : X) (ys : List X) → P x → AllByRecursion P ys → AllByRecursion P (insert x ys)
  all_insert P x [] here all = (here, tt)
  all_insert P x (y ∷ ys) here all = by_test (is_lt (R y x)) (all_insert P x ys here all.1)
    where
      by_test : (b : Bool) → AllByRecursion P (insert x ys) → AllByRecursion P (cond b (y ∷ insert x ys) (x ∷ y ∷ ys))
      by_test true rest = (all.0, rest)
      by_test false rest = (here, all)

  raised : (x y : X) (ys : List X) → is_lt (R y x) ≡ false → AllByRecursion (λ z. is_lt (R z y) ≡ false) ys → AllByRecursion (λ z. is_lt (R z x) ≡ false) ys
  raised x y [] low all = tt
  raised x y (z ∷ zs) low all = ((ranks_by o (λ (a : X). a)).chain z y x all.0 low, raised x y zs low all.1)

  insert_rises : (x : X) (ys : List X) → Rises ys → Rises (insert x ys)
  insert_rises x [] up = (tt, tt)
  insert_rises x (y ∷ ys) up = by_test (is_lt (R y x)) refl (insert_rises x ys up.1)
    where
      by_test : (b : Bool) → is_lt (R y x) ≡ b → Rises (insert x ys) → Rises (cond b (y ∷ insert x ys) (x ∷ y ∷ ys))
      by_test true e rest = (all_insert (λ z. is_lt (R z y) ≡ false) x ys ((ranks_by o (λ (a : X). a)).one_way y x e) up.0, rest)
      by_test false e rest = ((e, raised x y ys e up.0), up)

  sorted_from : (xs : List X) → Rises xs → IsSorted R xs
  sorted_from [] up k d low high = absurd (omega arith)
  sorted_from (x ∷ []) up k d low high = absurd (omega arith)
  sorted_from (x ∷ y ∷ ys) up zero d low high = up.0.0
  sorted_from (x ∷ y ∷ ys) up (suc k) d low high = rw add-one (rw add-one at (sorted_from (y ∷ ys) up.1 k d (omega arith) (omega arith)))

  some_order : (xs : List X) → (ys : List X) × IsPermutation xs ys × Rises ys
  some_order [] = ([], IsPermutation-refl [], tt)
  some_order (x ∷ xs) =
      let (ys, moves, up) = some_order xs in
      (insert x ys, IsPermutation-trans _ _ _ (IsPermutation-cons x xs ys moves) (insert_moves x ys), insert_rises x ys up)

  pub some_first : (cut : Cut) (rows : List X) → (answer : List X) × SortedAndCut R cut rows answer
  some_first cut rows =
      let (ys, moves, up) = some_order rows in
      (cut_at cut ys, record { sorted = ys; same = moves; ordered = sorted_from ys up; kept = refl })
