-- What crates that stand on this one may cite: facts about lists that no library states.
use Rattle.std.proofs.Common.{◌≡◌, ◌∙◌, ◌↔◌, ℕ, zero, suc, ◌+◌, ◌<◌, ◌≤◌, ◌⊎◌, Bool, true, false, cond, eqb, List, [], ◌∷◌, ◌++◌, Option, Some, None, Result, Ok, IfOk, inl, inr, length, get_or, filter, map, take, drop, set, refl, sym, ap, subst, add-one, append_assoc, append-nil, drop-cons, length-append, arith}
use Rattle.std.proofs.lemmas.Bool.{cases_Bool, cases_eq, eq-eqb, ne_eqb}
use Rattle.std.proofs.lemmas.List.{get_or-set_other, get_or-set_same, take-append-drop}
use Rattle.std.proofs.lemmas.List.Elements.{All-contains, All-head, All-tail, Contains-append_cases}
use Rattle.std.proofs.lemmas.List.Kept.{AllPairs-cons}
use Rattle.std.proofs.lemmas.List.Sorted.{IsPermutation-append_comm, IsPermutation-append_left}
use Rattle.std.proofs.lemmas.Option.{get_or_from_slice_get, same_Some, slice_get-get_or, slice_get_within}
use Rattle.std.proofs.lemmas.Result.{IfOk-weaker}
use Rattle.std.specs.Fn.{FnReturnsAt, Shared}
use Rattle.std.specs.List.{All, AllByRecursion, AllPairs, AllZip, Contains, cons_option, filter_map, flat_map, list_any, slice_get}
use Rattle.std.specs.List.Sorted.{IsPermutation}
use denote.Ref.{Bor}
use mathlib.Core.List.{IsPrefix}

-- ---- elements

-- nothing is an element of the empty list
pub none_in : {X : Type 0} (x : X) → Contains [] x → ⊥
none_in x c = let l = c.1 in omega (arith, l)

-- an element is the first one, or stands after it
pub contains_cases : {X : Type 0} (y : X) (ys : List X) (x : X) → Contains (y ∷ ys) x → (y ≡ x) ⊎ Contains ys x
contains_cases y ys x h = by_place h.0 h.1 h.2
  where
    by_place : (k : ℕ) → k < length (y ∷ ys) → get_or (y ∷ ys) k x ≡ x → (y ≡ x) ⊎ Contains ys x
    by_place zero l e = inl e
    by_place (suc k) l e = inr (k, omega arith, e)

-- the first is an element
pub contains_here : {X : Type 0} (y : X) (ys : List X) → Contains (y ∷ ys) y
contains_here y ys = (0, omega arith, refl)

-- an element of the rest is one of the whole
pub contains_there : {X : Type 0} (y : X) (ys : List X) (x : X) → Contains ys x → Contains (y ∷ ys) x
contains_there y ys x h = (suc h.0, (let l = h.1 in omega arith), h.2)

-- what a list of one element holds is that element
pub in_one : {X : Type 0} (x y : X) → Contains (x ∷ []) y → x ≡ y
in_one x y c = elim (contains_cases x [] y c) [ inl e ↦ e | inr d ↦ absurd (none_in y d) ]

-- a list has one only element
pub one_only : {X : Type 0} (xs : List X) (x y : X) → xs ≡ x ∷ [] → xs ≡ y ∷ [] → x ≡ y
one_only xs x y e f = let k : x ∷ [] ≡ y ∷ [] = sym e ∙ f in cc

-- two lists that are one have one first element
pub first_same : {X : Type 0} (x y : X) (xs ys : List X) → x ∷ xs ≡ y ∷ ys → x ≡ y
first_same x y xs ys e = cc

-- a list with an element isn't empty
pub not_empty : {X : Type 0} (xs : List X) (x : X) (rest : List X) → xs ++ x ∷ rest ≡ [] → ⊥
not_empty [] x rest e = cc
not_empty (y ∷ xs) x rest e = cc

-- what stands at a place is an element, and an element stands at a place
pub at_contains : {X : Type 0} (xs : List X) (k : ℕ) (x : X) → slice_get xs k ≡ Some x → Contains xs x
at_contains xs k x e = (k, slice_get_within xs k x e, get_or_from_slice_get xs k x x e)

pub contains_at : {X : Type 0} (xs : List X) (x : X) → Contains xs x → (k : ℕ) × (slice_get xs k ≡ Some x)
contains_at xs x c = (c.0, slice_get-get_or xs c.0 x c.1 ∙ ap Some c.2)

-- something is got at each index
pub some_got : {X : Type 0} (xs : List X) (k : ℕ) → k < length xs → (x : X) × (slice_get xs k ≡ Some x)
some_got [] k below = absurd (omega arith)
some_got (x ∷ xs) zero below = (x, refl)
some_got (x ∷ xs) (suc k) below = some_got xs k (omega arith)

-- what is read of a list with one element changed
pub get_or-set : {X : Type 0} (xs : List X) (i k : ℕ) (x d : X) → i < length xs → get_or (set xs i x) k d ≡ cond (eqb i k) x (get_or xs k d)
get_or-set {X} xs i k x d lt =
    elim (cases_eq i k) [
      | inl same ↦ rw (eq-eqb i k same) (ap (λ (j : ℕ). get_or (set xs i x) j d) (sym same) ∙ get_or-set_same xs i x d lt)
      | inr other ↦ rw (ne_eqb i k other) (get_or-set_other xs i k x d (λ q. other (sym q)))
    ]

-- a list is what stands before a place, what stands there, and what stands after it
pub split_here : {X : Type 0} (xs : List X) (i : ℕ) (x : X) → i < length xs → x ≡ get_or xs i x → take i xs ++ x ∷ drop (i + 1) xs ≡ xs
split_here {X} xs i x l e =
    ap (λ (y : X). take i xs ++ y ∷ drop (i + 1) xs) e
    ∙ (ap (λ (ys : List X). take i xs ++ ys) (rw add-one (sym (drop-cons xs i x l))) ∙ take-append-drop i xs)

-- a list is what stands before a place, what stands there, and what stands after it
pub split_at : {X : Type 0} (xs : List X) (k : ℕ) (x : X) → slice_get xs k ≡ Some x → take k xs ++ x ∷ drop (k + 1) xs ≡ xs
split_at xs k x e = split_here xs k x (slice_get_within xs k x e) (sym (get_or_from_slice_get xs k x x e))

-- two places of one list: the same, or one before the other
pub same_list_split : {X : Type 0} (g : List X) (x : X) (r g' : List X) (x' : X) (r' : List X) → g ++ x ∷ r ≡ g' ++ x' ∷ r'
    → ((g ≡ g') × (x ≡ x')) ⊎ (((m : List X) × (g ++ x ∷ m ≡ g')) ⊎ ((m : List X) × (g' ++ x' ∷ m ≡ g)))
same_list_split [] x r [] x' r' q = inl (refl, cc)
same_list_split [] x r (y ∷ g') x' r' q = inr (inl (g', cc))
same_list_split (y ∷ g) x r [] x' r' q = inr (inr (g, cc))
same_list_split (y ∷ g) x r (z ∷ g') x' r' q =
    let same : y ≡ z = cc in
    elim (same_list_split g x r g' x' r' cc) [
      | inl p ↦ inl (let a : g ≡ g' = p.0 in cc, p.1)
      | inr other ↦ elim other [
        | inl p ↦ inr (inl (p.0, let a : g ++ x ∷ p.0 ≡ g' = p.1 in cc))
        | inr p ↦ inr (inr (p.0, let a : g' ++ x' ∷ p.0 ≡ g = p.1 in cc))
      ]
    ]

-- ---- ends of lists

-- what one more element at the end keeps, a list of them keeps
pub push_all : {X : Type 0} (P : List X → Type 0) → ((h : List X) (e : X) → P h → P (h ++ e ∷ [])) → (g h : List X) → P g → P (g ++ h)
push_all P more g [] p = subst P (sym (append-nil g)) p
push_all P more g (e ∷ h) p = subst P (append_assoc g (e ∷ []) h) (push_all P more (g ++ e ∷ []) h (more g e p))

-- what holds of no element, and of one more at the end, holds of each list
pub by_push : {X : Type 0} (P : List X → Type 0) → P [] → ((h : List X) (e : X) → P h → P (h ++ e ∷ [])) → (h : List X) → P h
by_push P none more h = push_all P more [] h none

-- an element of a list with one more at its end is that one, or stands in the list
pub push_split : {X : Type 0} (g : List X) (x : X) (rest h : List X) (e : X) → g ++ x ∷ rest ≡ h ++ e ∷ [] → ((g ≡ h) × (x ≡ e)) ⊎ ((after : List X) × (g ++ x ∷ after ≡ h))
push_split [] x rest [] e q = inl (refl, cc)
push_split [] x rest (y ∷ h) e q = inr (h, cc)
push_split (y ∷ []) x rest [] e q = absurd cc
push_split (y ∷ z ∷ g) x rest [] e q = absurd cc
push_split (y ∷ g) x rest (z ∷ h) e q =
    let same : y ≡ z = cc in
    elim (push_split g x rest h e cc) [ inl p ↦ inl (cc, p.1) | inr p ↦ inr (p.0, let deeper : g ++ x ∷ p.0 ≡ h = p.1 in cc) ]

-- a list is a beginning of itself, and no beginning is longer than the whole
pub prefix-refl : {X : Type 0} (xs : List X) → IsPrefix xs xs
prefix-refl xs = ([], append-nil xs)

pub prefix-length : {X : Type 0} (xs ys : List X) → IsPrefix xs ys → length xs ≤ length ys
prefix-length {X} xs ys p = subst (λ (l : List X). length xs ≤ length l) p.1 (let e = length-append xs p.0 in let le : length xs ≤ length (xs ++ p.0) = omega arith in le)

-- what stands in a beginning stands in the whole
pub slice_get-prefix : {X : Type 0} (xs ys : List X) (k : ℕ) (e : X) → slice_get xs k ≡ Some e → slice_get (xs ++ ys) k ≡ Some e
slice_get-prefix [] ys k e is = absurd (cc)
slice_get-prefix (x ∷ xs) ys zero e is = is
slice_get-prefix (x ∷ xs) ys (suc k) e is = slice_get-prefix xs ys k e is

-- ---- all elements

-- what holds of all holds of each, and the other way round
pub each_at : {X : Type 0} (P : X → Type 0) (xs : List X) → All P xs → (x : X) → Contains xs x → P x
each_at P xs all x there = All-contains P xs x all there

pub all_of : {X : Type 0} (P : X → Type 0) (xs : List X) → ((x : X) → Contains xs x → P x) → All P xs
all_of P [] each k d lt = absurd (omega (arith, lt))
all_of P (x ∷ xs) each zero d lt = each x (contains_here x xs)
all_of P (x ∷ xs) each (suc k) d lt = all_of P xs (λ y c. each y (contains_there x xs y c)) k d (omega (arith, lt))

-- what holds of each element holds of all
pub all_recursive : {X : Type 0} (P : X → Type 0) (xs : List X) → ((y : X) → Contains xs y → P y) → AllByRecursion P xs
all_recursive P [] f = tt
all_recursive P (x ∷ xs) f = (f x (contains_here x xs), all_recursive P xs (λ y c. f y (contains_there x xs y c)))

-- what holds of all holds of one between others
pub all_at : {X : Type 0} (P : X → Type 0) (front : List X) (x : X) (rest : List X) → All P (front ++ x ∷ rest) → P x
all_at P [] x rest a = All-head P x rest a
all_at P (y ∷ front) x rest a = all_at P front x rest (All-tail P y (front ++ x ∷ rest) a)

-- what holds of each of some elements and others holds of each of the others
pub all_back : {X : Type 0} (P : X → Type 0) (before after : List X) → All P (before ++ after) → All P after
all_back P [] after all = all
all_back P (x ∷ before) after all = all_back P before after (All-tail P x (before ++ after) all)

-- ---- some element

-- a test passes somewhere in a list where an element passes it, and the other way round
pub any_of : {X : Type 0} (p : X → Bool) (xs : List X) (x : X) → Contains xs x → p x ≡ true → list_any p xs ≡ true
any_of p [] x c q = absurd (none_in x c)
any_of p (z ∷ xs) x c q =
    elim (contains_cases z xs x c) [
      | inl here ↦ let a : p z ≡ true = ap p here ∙ q in grind arith
      | inr rest ↦ let a = any_of p xs x rest q in grind arith
    ]

pub from_any : {X : Type 0} (p : X → Bool) (xs : List X) → list_any p xs ≡ true → (x : X) × Contains xs x × (p x ≡ true)
from_any p [] q = absurd cc
from_any p (z ∷ xs) q =
    elim (cases_Bool (p z)) [
      | inl hit ↦ (z, contains_here z xs, hit)
      | inr miss ↦ let w = from_any p xs (grind arith) in (w.0, contains_there z xs w.0 w.1, w.2)
    ]

-- ---- lists in order

pub pairs_none : {X : Type 0} (R : X → X → Type 0) → AllPairs R []
pairs_none R i j d below lt = absurd (omega (arith, lt))

-- what comes first comes before all others
pub pairs_head : {X : Type 0} (R : X → X → Type 0) (x : X) (xs : List X) → AllPairs R (x ∷ xs) → All (R x) xs
pairs_head R x xs pairs k d lt = pairs 0 (suc k) d (omega arith) (omega (arith, lt))

pub pairs_tail : {X : Type 0} (R : X → X → Type 0) (x : X) (xs : List X) → AllPairs R (x ∷ xs) → AllPairs R xs
pairs_tail R x xs pairs i j d below lt = pairs (suc i) (suc j) d (omega (arith, below)) (omega (arith, lt))

-- two lists in order, where each element of the first comes before each of the second
pub pairs_append : {X : Type 0} (R : X → X → Type 0) (xs ys : List X) → AllPairs R xs → AllPairs R ys → ((x y : X) → Contains xs x → Contains ys y → R x y) → AllPairs R (xs ++ ys)
pairs_append R [] ys p q apart = q
pairs_append R (x ∷ xs) ys p q apart =
    AllPairs-cons R x (xs ++ ys)
    (all_of (R x) (xs ++ ys) (λ y c. elim (Contains-append_cases xs ys y c) [
      | inl front ↦ All-contains (R x) xs y (pairs_head R x xs p) front
      | inr back ↦ apart x y (contains_here x xs) back
    ]))
    (pairs_append R xs ys (pairs_tail R x xs p) q (λ y z c d. apart y z (contains_there x xs y c) d))

-- ---- elements in another order

-- the first two elements may change places
pub two_swapped : {X : Type 0} (x y : X) (zs : List X) → IsPermutation (x ∷ y ∷ zs) (y ∷ x ∷ zs)
two_swapped x y zs = IsPermutation-append_left zs (x ∷ y ∷ []) (y ∷ x ∷ []) (IsPermutation-append_comm (x ∷ []) (y ∷ []))

-- two parts before the rest change places
pub shuffled : {X : Type 0} (a b rest : List X) → IsPermutation (a ++ (b ++ rest)) (b ++ (a ++ rest))
shuffled a b rest = rw (← append_assoc a b rest, ← append_assoc b a rest) (IsPermutation-append_left rest (a ++ b) (b ++ a) (IsPermutation-append_comm a b))

-- ---- what is made of a list

-- what a map has comes from an element
pub in_map : {X Y : Type 0} (f : X → Y) (xs : List X) (y : Y) → Contains (map f xs) y → (x : X) × Contains xs x × (f x ≡ y)
in_map f [] y c = absurd (none_in y c)
in_map f (x ∷ xs) y c = elim (contains_cases (f x) (map f xs) y c) [
  | inl e ↦ (x, contains_here x xs, e)
  | inr d ↦ (let (z, there, is) = in_map f xs y d in (z, contains_there x xs z there, is))
]

-- what a map has of an element
pub contains_map : {X Y : Type 0} (f : X → Y) (xs : List X) (x : X) → Contains xs x → Contains (map f xs) (f x)
contains_map f [] x c = absurd (none_in x c)
contains_map {X} f (y ∷ ys) x c =
    elim (contains_cases y ys x c) [
      | inl e ↦ subst (λ (z : X). Contains (f y ∷ map f ys) (f z)) e (contains_here (f y) (map f ys))
      | inr k ↦ contains_there (f y) (map f ys) (f x) (contains_map f ys x k)
    ]

-- what joined lists have is in the list of an element
pub in_flat : {X Y : Type 0} (f : X → List Y) (xs : List X) (y : Y) → Contains (flat_map f xs) y → (x : X) × Contains xs x × Contains (f x) y
in_flat f [] y c = absurd (none_in y c)
in_flat f (x ∷ xs) y c = elim (Contains-append_cases (f x) (flat_map f xs) y c) [
  | inl d ↦ (x, contains_here x xs, d)
  | inr d ↦ (let (z, there, held) = in_flat f xs y d in (z, contains_there x xs z there, held))
]

-- a filter keeps what passes
pub in_filter : {X : Type 0} (p : X → Bool) (xs : List X) (x : X) → Contains (filter p xs) x ↔ (Contains xs x × (p x ≡ true))
in_filter p [] x = (λ c. absurd (none_in x c), λ c. absurd (none_in x c.0))
in_filter {X} p (y ∷ ys) x = by (p y) refl (in_filter p ys x)
  where
    by : (b : Bool) → p y ≡ b → (Contains (filter p ys) x ↔ (Contains ys x × (p x ≡ true))) → (Contains (cond b (y ∷ filter p ys) (filter p ys)) x ↔ (Contains (y ∷ ys) x × (p x ≡ true)))
    by true is rest = (
      λ c. elim (contains_cases y (filter p ys) x c) [
        | inl e ↦ (subst (λ (z : X). Contains (y ∷ ys) z) e (contains_here y ys), sym (ap p e) ∙ is)
        | inr d ↦ let r = rest.0 d in (contains_there y ys x r.0, r.1)
      ],
      λ c. elim (contains_cases y ys x c.0) [
        | inl e ↦ subst (λ (z : X). Contains (y ∷ filter p ys) z) e (contains_here y (filter p ys))
        | inr d ↦ contains_there y (filter p ys) x (rest.1 (d, c.1))
      ],
    )
    by false is rest = (
      λ c. let r = rest.0 c in (contains_there y ys x r.0, r.1),
      λ c. elim (contains_cases y ys x c.0) [
        | inl e ↦ absurd (let f : true ≡ false = sym c.1 ∙ sym (ap p e) ∙ is in cc)
        | inr d ↦ rest.1 (d, c.1)
      ],
    )

option_cases : {X : Type 0} (o : Option X) (xs : List X) (y : X) → Contains (cons_option o xs) y → (o ≡ Some y) ⊎ Contains xs y
option_cases None xs y c = inr c
option_cases (Some x) xs y c = elim (contains_cases x xs y c) [ inl same ↦ inl (ap Some same) | inr rest ↦ inr rest ]

option_here : {X : Type 0} (o : Option X) (xs : List X) (y : X) → o ≡ Some y → Contains (cons_option o xs) y
option_here None xs y q = absurd cc
option_here (Some x) xs y q = subst (Contains (x ∷ xs)) (same_Some x y q) (contains_here x xs)

option_there : {X : Type 0} (o : Option X) (xs : List X) (y : X) → Contains xs y → Contains (cons_option o xs) y
option_there None xs y c = c
option_there (Some x) xs y c = contains_there x xs y c

-- what a list gives comes from one of its elements, and what an element gives is given
pub given_by : {X Y : Type 0} (f : X → Option Y) (xs : List X) (y : Y) → Contains (filter_map f xs) y → (x : X) × Contains xs x × (f x ≡ Some y)
given_by f [] y c = absurd (none_in y c)
given_by f (x ∷ xs) y c =
    elim (option_cases (f x) (filter_map f xs) y c) [
      | inl here ↦ (x, contains_here x xs, here)
      | inr rest ↦ let w = given_by f xs y rest in (w.0, contains_there x xs w.0 w.1, w.2)
    ]

pub gives : {X Y : Type 0} (f : X → Option Y) (xs : List X) (x : X) (y : Y) → Contains xs x → f x ≡ Some y → Contains (filter_map f xs) y
gives f [] x y c q = absurd (none_in x c)
gives f (z ∷ xs) x y c q =
    elim (contains_cases z xs x c) [
      | inl here ↦ option_here (f z) (filter_map f xs) y (ap f here ∙ q)
      | inr rest ↦ option_there (f z) (filter_map f xs) y (gives f xs x y rest q)
    ]

-- ---- lists side by side

-- what follows of each pair follows of all
pub zip_weaker : {X Y : Type 0} (R S : X → Y → Type 0) → ((x : X) (y : Y) → R x y → S x y) → (xs : List X) (ys : List Y) → AllZip R xs ys → AllZip S xs ys
zip_weaker R S each [] [] z = tt
zip_weaker R S each [] (y ∷ ys) z = absurd z
zip_weaker R S each (x ∷ xs) [] z = absurd z
zip_weaker R S each (x ∷ xs) (y ∷ ys) z = (each x y z.0, zip_weaker R S each xs ys z.1)

-- what a call gave of each item stands beside it as the call says
pub each_made : {F X Y E : Type 0} (g : Shared F (Bor X × Unit {0}) (Result Y E)) (f : F) (R : X → Y → Type 0) → ((p : Bor X) (y : Y) → g.post f (p, tt) (Ok y) → R p.now y)
    → (r : Result (List Y) E) (xs : List X) → IfOk r (λ made. AllZip (λ x y. FnReturnsAt g f x (Ok y)) xs made) → IfOk r (AllZip R xs)
each_made g f R each r xs made =
    IfOk-weaker r _ _ (λ ys z. zip_weaker (λ x y. FnReturnsAt g f x (Ok y)) R (λ x y at. subst (λ w. R w y) at.shows (each at.shown y at.says.met)) xs ys z) made
