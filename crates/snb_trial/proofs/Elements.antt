-- Facts about lists: where elements stand, and lists in order.
use Rattle.std.proofs.Common.{◌≡◌, ◌∷◌, ◌++◌, ℕ, zero, suc, ◌+◌, ◌<◌, ◌≤◌, List, [], Option, Some, None, inl, inr, refl, subst, arith}
use Rattle.std.specs.List.{AllPairs, Contains, cons_option, filter_map, flat_map, range_with_len}
use Rattle.std.proofs.lemmas.List.Elements.{All-contains, Contains-append_cases, Contains-append_left, Contains-append_right}
use Rattle.std.proofs.lemmas.List.Kept.{AllPairs-cons}
use Rattle.std.proofs.lemmas.Bool.{cases_lt}
use Rattle.snb_base.proofs.Laws.{all_of, contains_cases, contains_here, contains_there, given_by, none_in, pairs_append, pairs_head, pairs_none, pairs_tail}

-- ---- lists in order

-- what stands before an element of a list in order comes before it, and it comes before what stands behind it
pub before_it : {X : Type 0} (R : X → X → Type 0) (front : List X) (x : X) (back : List X) → AllPairs R (front ++ x ∷ back) → (y : X) → Contains front y → R y x
before_it R [] x back pairs y c = absurd (none_in y c)
before_it R (z ∷ front) x back pairs y c =
    elim (contains_cases z front y c) [
      | inl e ↦ subst (λ w. R w x) e (All-contains (R z) (front ++ x ∷ back) x (pairs_head R z (front ++ x ∷ back) pairs) (Contains-append_right front (x ∷ back) x (contains_here x back)))
      | inr rest ↦ before_it R front x back (pairs_tail R z (front ++ x ∷ back) pairs) y rest
    ]

pub behind_it : {X : Type 0} (R : X → X → Type 0) (front : List X) (x : X) (back : List X) → AllPairs R (front ++ x ∷ back) → (y : X) → Contains back y → R x y
behind_it R [] x back pairs y c = All-contains (R x) back y (pairs_head R x back pairs) c
behind_it R (z ∷ front) x back pairs y c = behind_it R front x back (pairs_tail R z (front ++ x ∷ back) pairs) y c

-- ---- what is taken out

option_pairs : {Y : Type 0} (S : Y → Y → Type 0) (o : Option Y) (ys : List Y) → ((y z : Y) → o ≡ Some y → Contains ys z → S y z) → AllPairs S ys → AllPairs S (cons_option o ys)
option_pairs S None ys first pairs = pairs
option_pairs S (Some y) ys first pairs = AllPairs-cons S y ys (all_of (S y) ys (λ z c. first y z refl c)) pairs

-- what a list in order gives is in order
pub given_in_order : {X Y : Type 0} (f : X → Option Y) (R : X → X → Type 0) (S : Y → Y → Type 0) (xs : List X)
    → ((x z : X) (y w : Y) → Contains xs x → Contains xs z → R x z → f x ≡ Some y → f z ≡ Some w → S y w) → AllPairs R xs → AllPairs S (filter_map f xs)
given_in_order f R S [] kept pairs = pairs_none S
given_in_order {X} {Y} f R S (x ∷ xs) kept pairs =
    option_pairs S (f x) (filter_map f xs)
    (λ y w e c. let g = given_by f xs w c in
    kept x g.0 y w (contains_here x xs) (contains_there x xs g.0 g.1) (All-contains (R x) xs g.0 (pairs_head R x xs pairs) g.1) e g.2)
    (given_in_order f R S xs (λ a b y w c d. kept a b y w (contains_there x xs a c) (contains_there x xs b d)) (pairs_tail R x xs pairs))

-- ---- lists of each number of a range

-- an element stands in the list of one of the numbers, and the other way round
pub from_range : {X : Type 0} (of : ℕ → List X) (a n : ℕ) (x : X) → Contains (flat_map of (range_with_len a n)) x → (i : ℕ) × (a ≤ i) × (i < a + n) × Contains (of i) x
from_range of a zero x c = absurd (none_in x c)
from_range of a (suc n) x c =
    elim (Contains-append_cases (of a) (flat_map of (range_with_len (a + 1) n)) x c) [
      | inl first ↦ (a, omega arith, omega arith, first)
      | inr rest ↦ let w = from_range of (a + 1) n x rest in let low = w.1 in let high = w.2 in (w.0, omega (arith, low), omega (arith, high), w.3)
    ]

pub to_range : {X : Type 0} (of : ℕ → List X) (a n i : ℕ) (x : X) → a ≤ i → i < a + n → Contains (of i) x → Contains (flat_map of (range_with_len a n)) x
to_range of a zero i x low high c = absurd (omega (arith, low, high))
to_range of a (suc n) i x low high c =
    elim (cases_lt a i) [
      | inl above ↦ Contains-append_right (of a) (flat_map of (range_with_len (a + 1) n)) x (to_range of (a + 1) n i x (omega (arith, above)) (omega (arith, high)) c)
      | inr here ↦
          let e : i ≡ a = omega (arith, here, low) in
          Contains-append_left (of a) (flat_map of (range_with_len (a + 1) n)) x (subst (λ (k : ℕ). Contains (of k) x) e c)
    ]

-- where the list of each number is in order, and before those of greater numbers, all are
pub range_in_order : {X : Type 0} (R : X → X → Type 0) (of : ℕ → List X) → ((i : ℕ) → AllPairs R (of i)) → ((i j : ℕ) (x y : X) → i < j → Contains (of i) x → Contains (of j) y → R x y)
    → (a n : ℕ) → AllPairs R (flat_map of (range_with_len a n))
range_in_order R of each apart a zero = pairs_none R
range_in_order R of each apart a (suc n) =
    pairs_append R (of a) (flat_map of (range_with_len (a + 1) n)) (each a) (range_in_order R of each apart (a + 1) n)
    (λ x y c d. let w = from_range of (a + 1) n y d in let low = w.1 in apart a w.0 x y (omega (arith, low)) c w.3)
