-- Lists in order.
use Rattle.std.proofs.Common.{◌≡◌, ◌↔◌, ℕ, ◌<◌, ◌≤◌, List, [], ◌∷◌, length, get_or, false, ◌⊎◌, inl, inr, refl, sym, ap, ◌∙◌, subst, arith}
use Rattle.std.specs.List.{AllPairs, Contains, swap}
use Rattle.std.specs.List.Sorted.{IsPermutation, IsSorted}
use Rattle.std.specs.Cmp.{IsTotalOrder, nat_cmp_total, tied_itself}
use Rattle.std.specs.declared.cmp.Ordering.{Ordering}
use Rattle.std.specs.Ordering.{nat_cmp, ordering_then, is_lt}
use Rattle.std.proofs.lemmas.Bool.{cases_eq, cases_lt, false≢true}
use Rattle.std.proofs.lemmas.List.Edits.{length-swap, swapped_from_swap}
use Rattle.std.proofs.lemmas.List.Elements.{All-contains}
use Rattle.std.proofs.lemmas.List.Sorted.{Contains-permutation, IsPermutation-keeps, IsPermutation-sym, ranks_by, sorted_far}
use Rattle.snb_base.proofs.Laws.{compares_less, contains_cases, contains_here, contains_there, none_in, pairs_head, pairs_tail}
use Rattle.snb_plan.specs.Merging.{AreInOrder}

-- ---- one list

-- lists in one strict order that have the same elements are one
pub same_list : {X : Type 0} (R : X → X → Type 0) → ((x y : X) → R x y → R y x → ⊥) → (xs ys : List X) → AllPairs R xs → AllPairs R ys → ((x : X) → Contains xs x ↔ Contains ys x) → xs ≡ ys
same_list R strict [] [] a b same = refl
same_list R strict [] (y ∷ ys) a b same = absurd (none_in y ((same y).1 (contains_here y ys)))
same_list R strict (x ∷ xs) [] a b same = absurd (none_in x ((same x).0 (contains_here x xs)))
same_list {X} R strict (x ∷ xs) (y ∷ ys) a b same =
    ap (λ (z : X). z ∷ xs) heads ∙ ap (λ (zs : List X). y ∷ zs) (same_list R strict xs ys (pairs_tail R x xs a) (pairs_tail R y ys b) (λ z. (to z, from z)))
  where
    heads : x ≡ y
    heads = elim (contains_cases y ys x ((same x).0 (contains_here x xs))) [
      | inl e ↦ sym e
      | inr later ↦ elim (contains_cases x xs y ((same y).1 (contains_here y ys))) [
        | inl e ↦ e
        | inr after ↦ absurd (strict x y (All-contains (R x) xs y (pairs_head R x xs a) after) (All-contains (R y) ys x (pairs_head R y ys b) later))
      ]
    ]

    to : (z : X) → Contains xs z → Contains ys z
    to z at = elim (contains_cases y ys z ((same z).0 (contains_there x xs z at))) [
      | inl e ↦ absurd (
          let r : R x z = All-contains (R x) xs z (pairs_head R x xs a) at in
          let is : z ≡ x = sym e ∙ sym heads in
          let again : R x x = subst (R x) is r in
          strict x x again again)
      | inr rest ↦ rest
    ]

    from : (z : X) → Contains ys z → Contains xs z
    from z at = elim (contains_cases x xs z ((same z).1 (contains_there y ys z at))) [
      | inl e ↦ absurd (
          let r : R y z = All-contains (R y) ys z (pairs_head R y ys b) at in
          let is : z ≡ y = sym e ∙ heads in
          let again : R y y = subst (R y) is r in
          strict y y again again)
      | inr rest ↦ rest
    ]

-- a list in order is told by its elements
pub one_order : {X : Type 0} (R : X → X → Type 0) (P : X → Type 0) → ((x y : X) → R x y → R y x → ⊥) → (xs ys : List X) → AreInOrder R P xs → AreInOrder R P ys → xs ≡ ys
one_order R P strict xs ys a b =
    same_list R strict xs ys a.ordered b.ordered (λ x. (λ at. (b.those x).1 ((a.those x).0 at), λ at. (a.those x).1 ((b.those x).0 at)))

-- ---- what a sort makes

-- no element stands at two places
abbrev pub Distinct : {X : Type 0} → List X → Type 0
Distinct {X} xs = (i j : ℕ) (d : X) → i < length xs → j < length xs → get_or xs i d ≡ get_or xs j d → i ≡ j

swap_keeps : {X : Type 0} (l : List X) (a b : ℕ) → a < length l → b < length l → Distinct l → Distinct (swap l a b)
swap_keeps {X} l a b la lb distinct i j d li lj same = by (cases_eq i a) (cases_eq i b) (cases_eq j a) (cases_eq j b)
  where
    s : (get_or (swap l a b) a d ≡ get_or l b d) × (get_or (swap l a b) b d ≡ get_or l a d)
        × ((m : ℕ) → (m ≡ a → ⊥) → (m ≡ b → ⊥) → get_or (swap l a b) m d ≡ get_or l m d)
    s = swapped_from_swap l (swap l a b) a b d la lb refl

    size : length (swap l a b) ≡ length l
    size = length-swap l a b

    f : ℕ → X
    f k = get_or l k d

    g : ℕ → X
    g k = get_or (swap l a b) k d

    -- the element at a place stood at this one
    was : (m k n o : ℕ) → k < length l → o < length l → get_or (swap l a b) m d ≡ get_or l k d → get_or (swap l a b) n d ≡ get_or l o d
        → get_or (swap l a b) m d ≡ get_or (swap l a b) n d → k ≡ o
    was m k n o lk lo p q e = distinct k o d lk lo (sym p ∙ e ∙ q)

    li' : i < length l
    li' = omega (arith, li, size)

    lj' : j < length l
    lj' = omega (arith, lj, size)

    at_a : (m : ℕ) → m ≡ a → get_or (swap l a b) m d ≡ get_or l b d
    at_a m e = ap (λ (k : ℕ). get_or (swap l a b) k d) e ∙ s.0

    at_b : (m : ℕ) → m ≡ b → get_or (swap l a b) m d ≡ get_or l a d
    at_b m e = ap (λ (k : ℕ). get_or (swap l a b) k d) e ∙ s.1

    by : (i ≡ a) ⊎ (i ≡ a → ⊥) → (i ≡ b) ⊎ (i ≡ b → ⊥) → (j ≡ a) ⊎ (j ≡ a → ⊥) → (j ≡ b) ⊎ (j ≡ b → ⊥) → i ≡ j
    by (inl ia) ib (inl ja) jb = ia ∙ sym ja
    by (inl ia) ib (inr ja) (inl jb) = ia ∙ sym (was i b j a lb la (at_a i ia) (at_b j jb) same) ∙ sym jb
    by (inl ia) ib (inr ja) (inr jb) = absurd (jb (sym (was i b j j lb lj' (at_a i ia) (s.2 j ja jb) same)))
    by (inr ia) (inl ib) (inl ja) jb = ib ∙ sym (was i a j b la lb (at_b i ib) (at_a j ja) same) ∙ sym ja
    by (inr ia) (inl ib) (inr ja) (inl jb) = ib ∙ sym jb
    by (inr ia) (inl ib) (inr ja) (inr jb) = absurd (ja (sym (was i a j j la lj' (at_b i ib) (s.2 j ja jb) same)))
    by (inr ia) (inr ib) (inl ja) jb = absurd (ib (was i i j b li' lb (s.2 i ia ib) (at_a j ja) same))
    by (inr ia) (inr ib) (inr ja) (inl jb) = absurd (ia (was i i j a li' la (s.2 i ia ib) (at_b j jb) same))
    by (inr ia) (inr ib) (inr ja) (inr jb) = was i i j j li' lj' (s.2 i ia ib) (s.2 j ja jb) same

pub distinct_permutation : {X : Type 0} (xs ys : List X) → IsPermutation xs ys → Distinct xs → Distinct ys
distinct_permutation xs ys moved distinct = IsPermutation-keeps xs Distinct distinct swap_keeps ys moved

-- what is strictly ordered is distinct
pub distinct_from_pairs : {X : Type 0} (R : X → X → Type 0) → ((x : X) → R x x → ⊥) → (xs : List X) → AllPairs R xs → Distinct xs
distinct_from_pairs R strict xs pairs i j d li lj same =
    elim (cases_lt i j) [
      | inl below ↦ absurd (strict (get_or xs j d) (subst (λ x. R x (get_or xs j d)) same (pairs i j d below lj)))
      | inr ge ↦ elim (cases_lt j i) [
        | inl above ↦ absurd (strict (get_or xs i d) (subst (λ x. R x (get_or xs i d)) (sym same) (pairs j i d above li)))
        | inr le ↦ omega (arith, ge, le)
      ]
    ]

-- a sorted list of distinct elements is strictly ordered, where the order tells apart
pub pairs_from_sorted : {X : Type 0} (cmp : X → X → Ordering) (R : X → X → Type 0) → IsTotalOrder cmp → ((x y : X) → is_lt (cmp y x) ≡ false → (x ≡ y → ⊥) → R x y)
    → (xs : List X) → IsSorted cmp xs → Distinct xs → AllPairs R xs
pairs_from_sorted cmp R total apart xs sorted distinct i j d below lt =
    apart (get_or xs i d) (get_or xs j d)
    (sorted_far (λ x y. is_lt (cmp x y)) (ranks_by total (λ x. x)) xs sorted i j d (omega (arith, below)) lt)
    (λ same. let e = distinct i j d (omega (arith, below, lt)) lt same in omega (arith, e, below))

-- a permutation has the same elements
pub same_elements : {X : Type 0} (xs ys : List X) → IsPermutation xs ys → (x : X) → Contains ys x ↔ Contains xs x
same_elements xs ys moved x = (Contains-permutation ys xs x (IsPermutation-sym xs ys moved), Contains-permutation xs ys x moved)

-- ---- orders by three numbers

-- by the first, then by the second, then by the third
pub by_three : (x y z u v w : ℕ) → is_lt (ordering_then (nat_cmp u x) (ordering_then (nat_cmp v y) (nat_cmp w z))) ≡ false
    → (x < u) ⊎ ((x ≡ u) × ((y < v) ⊎ ((y ≡ v) × (z ≤ w))))
by_three x y z u v w not_less =
    elim (cases_lt x u) [
      | inl lt ↦ inl lt
      | inr ge ↦ elim (cases_lt u x) [
        | inl gt ↦ absurd (false≢true (sym not_less ∙ ap (λ o. is_lt (ordering_then o (ordering_then (nat_cmp v y) (nat_cmp w z)))) (compares_less u x gt)))
        | inr le ↦
            let first : x ≡ u = omega (arith, ge, le) in
            inr (
              first,
              second (sym (ap (λ o. is_lt (ordering_then o (ordering_then (nat_cmp v y) (nat_cmp w z))))
                  (ap (λ (n : ℕ). nat_cmp u n) first ∙ tied_itself nat_cmp_total u)) ∙ not_less),
            )
      ]
    ]
  where
    second : is_lt (ordering_then (nat_cmp v y) (nat_cmp w z)) ≡ false → (y < v) ⊎ ((y ≡ v) × (z ≤ w))
    second rest =
        elim (cases_lt y v) [
          | inl lt ↦ inl lt
          | inr ge ↦ elim (cases_lt v y) [
            | inl gt ↦ absurd (false≢true (sym rest ∙ ap (λ o. is_lt (ordering_then o (nat_cmp w z))) (compares_less v y gt)))
            | inr le ↦
                let same : y ≡ v = omega (arith, ge, le) in
                inr (same, third (sym (ap (λ o. is_lt (ordering_then o (nat_cmp w z))) (ap (λ (n : ℕ). nat_cmp v n) same ∙ tied_itself nat_cmp_total v)) ∙ rest))
          ]
        ]
      where
        third : is_lt (nat_cmp w z) ≡ false → z ≤ w
        third last =
            elim (cases_lt w z) [
              | inl gt ↦ absurd (false≢true (sym last ∙ ap is_lt (compares_less w z gt)))
              | inr le ↦ le
            ]
