-- Facts on values by their query's place.
use Rattle.std.proofs.Common.{◌≡◌, ◌≢◌, ◌==◌, ◌∷◌, ◌∙◌, ◌<◌, ◌≤◌, [], ℕ, zero, suc, List, Bool, true, false, inl, inr, rules, refl, sym, ap, subst, length, arith, get_or, set, replicate, map, Ok, Err, Result, OnOk, if◌then◌else◌}
use Rattle.std.proofs.lemmas.Bool.{cases_lt, eqb-true, eqb-false}
use Rattle.std.proofs.lemmas.List.{get_or-set_same, get_or-set_other, length-map, length-set, map-set}
use Rattle.std.specs.List.{AllByRecursion}
use Rattle.snb_schema.specs.declared.query.TheConstants.{COMPLEX_COUNT}
use Rattle.snb_schema.specs.Frequencies.{FrequencyTable, frequency_at}
use Rattle.snb_schema.specs.Queries.{IsComplex, IsOneOf, complex_queries}
use Rattle.snb_schema.specs.QueryPlaces.{Values, index_in, place_of, value_at, values_of}

-- what holds of each of a list holds of one of them
pub of_one : (P : ℕ → Type 0) (xs : List ℕ) (q : ℕ) → IsOneOf q xs → AllByRecursion P xs → P q
of_one P [] q none all = absurd none
of_one P (x ∷ xs) q (inl e) all = subst P (sym e) all.0
of_one P (x ∷ xs) q (inr later) all = of_one P xs q later all.1

-- the place of one of a list is within it
place_by : (b : Bool) (q x : ℕ) (xs : List ℕ) → (q == x) ≡ b → IsOneOf q (x ∷ xs) → (IsOneOf q xs → index_in xs q < length xs) → (if b then 0 else suc (index_in xs q)) < suc (length xs)
place_by true q x xs e one later = omega arith
place_by false q x xs e (inl here) later = absurd (eqb-false q x e here)
place_by false q x xs e (inr there) later = let less = later there in omega (arith, less)

place_in : (xs : List ℕ) (q : ℕ) → IsOneOf q xs → index_in xs q < length xs
place_in [] q one = absurd one
place_in (x ∷ xs) q one = place_by (q == x) q x xs refl one (place_in xs q)

-- the place of a complex query is one of theirs
pub complex_place : (q : ℕ) → IsComplex q → place_of q < COMPLEX_COUNT
complex_place q complex = place_in complex_queries q complex

-- at the place of a number stands the number, where it does in the rest
by_test : (b : Bool) (x q d : ℕ) (xs : List ℕ) (rest : ℕ) → (q == x) ≡ b → (rest < length xs → get_or xs rest d ≡ q)
    → (if b then 0 else suc rest) < suc (length xs) → get_or (x ∷ xs) (if b then 0 else suc rest) d ≡ q
by_test true x q d xs rest e later lt = sym (eqb-true q x e)
by_test false x q d xs rest e later lt = later (omega (arith, lt))

-- at the place of a number stands the number
found : (xs : List ℕ) (q d : ℕ) → index_in xs q < length xs → get_or xs (index_in xs q) d ≡ q
found [] q d lt = absurd (omega (arith, lt))
found (x ∷ xs) q d lt = by_test (q == x) x q d xs (index_in xs q) refl (found xs q d) lt

-- another number than a complex query has another place
pub other_place : (other q : ℕ) → IsComplex q → other ≢ q → place_of other ≢ place_of q
other_place other q complex apart same =
    let low = complex_place q complex in
    apart (sym (found complex_queries other 0 (omega (arith, low, same))) ∙ ap (λ (n : ℕ). get_or complex_queries n 0) same ∙ found complex_queries q 0 (omega (arith, low)))

-- the value at a place is the list's
pub value_is : {A : Type 0} (n : ℕ) (xs : List A) (none : A) (place : ℕ) → length xs ≡ n → value_at n (values_of n xs none) place none ≡ get_or xs place none
value_is zero [] none place e = refl
value_is zero (x ∷ xs) none place e = absurd (omega (arith, e))
value_is (suc n) [] none place e = absurd (omega (arith, e))
value_is (suc n) (x ∷ xs) none zero e = refl
value_is (suc n) (x ∷ xs) none (suc place) e = value_is n xs none place (omega (arith, e))

-- past the last place stands no value
past_last : {A : Type 0} (n : ℕ) (values : Values n A) (place : ℕ) (none : A) → n ≤ place → value_at n values place none ≡ none
past_last zero values place none past = refl
past_last (suc n) values zero none past = absurd (omega (arith, past))
past_last (suc n) values (suc place) none past = past_last n values.1 place none (omega (arith, past))

-- at each place of a list stands one of it
one_at : (xs : List ℕ) (place d : ℕ) → place < length xs → IsOneOf (get_or xs place d) xs
one_at [] place d lt = absurd (omega (arith, lt))
one_at (x ∷ xs) zero d lt = inl refl
one_at (x ∷ xs) (suc place) d lt = inr (one_at xs place d (omega (arith, lt)))

-- a query with a frequency is one of the seven
pub frequent_complex : (table : FrequencyTable) (q : ℕ) → 0 < frequency_at table q → IsComplex q
frequent_complex table q some =
    elim (cases_lt (place_of q) COMPLEX_COUNT) [
      | inl low ↦ subst IsComplex (found complex_queries q 0 low) (one_at complex_queries (place_of q) 0 low)
      | inr past ↦ absurd (let none = past_last COMPLEX_COUNT table (place_of q) 0 past in omega (arith, some, none))
    ]

-- where each value is one and the same, so is that of each place
pub each_same : {A : Type 0} (n : ℕ) (none : A) (place : ℕ) → value_at n (values_of n (replicate n none) none) place none ≡ none
each_same zero none place = refl
each_same (suc n) none zero = refl
each_same (suc n) none (suc place) = each_same n none place

-- and so it is where none is given
pub none_given : {A : Type 0} (n : ℕ) (none : A) (place : ℕ) → value_at n (values_of n [] none) place none ≡ none
none_given zero none place = refl
none_given (suc n) none zero = refl
none_given (suc n) none (suc place) = none_given n none place

-- the value at the place that was written, and at another
module _ {A : Type 0} (n : ℕ) (xs : List A) (at : ℕ) (one none : A) (e : length xs ≡ n) where
  pub value_written : at < n → value_at n (values_of n (set xs at one) none) at none ≡ one
  value_written lt = value_is n (set xs at one) none at (length-set xs at one ∙ e) ∙ get_or-set_same xs at one none (omega (arith, lt, e))

  pub value_kept : (place : ℕ) → place ≢ at → value_at n (values_of n (set xs at one) none) place none ≡ value_at n (values_of n xs none) place none
  value_kept place apart = value_is n (set xs at one) none place (length-set xs at one ∙ e) ∙ get_or-set_other xs at place one none apart ∙ sym (value_is n xs none place e)

-- the frequencies after one was written
pub frequency_written : (xs : List ℕ) (place query frequency : ℕ) → place ≡ place_of query → IsComplex query → length xs ≡ COMPLEX_COUNT → (other : ℕ)
    → frequency_at (values_of COMPLEX_COUNT (set xs place frequency) 0) other ≡ (if other == query then frequency else frequency_at (values_of COMPLEX_COUNT xs 0) other)
frequency_written xs place query frequency at complex whole other = by_case (other == query) refl
  where
    written : List ℕ
    written = set xs place frequency

    by_case : (b : Bool) → (other == query) ≡ b → frequency_at (values_of COMPLEX_COUNT written 0) other ≡ (if b then frequency else frequency_at (values_of COMPLEX_COUNT xs 0) other)
    by_case true e =
        ap (λ (k : ℕ). value_at COMPLEX_COUNT (values_of COMPLEX_COUNT written 0) k 0) (ap (λ (q : ℕ). place_of q) (eqb-true other query e) ∙ sym at)
        ∙ value_written COMPLEX_COUNT xs place frequency 0 whole (let low = complex_place query complex in omega (arith, low, at))
    by_case false e = value_kept COMPLEX_COUNT xs place frequency 0 whole (place_of other) (λ same. other_place other query complex (eqb-false other query e) (same ∙ at))

-- the other lists after one was written
pub lists_kept : {A B : Type 0} (f : A → B) (xs : List A) (one : A) (none : B) (place query other : ℕ) → place ≡ place_of query → IsComplex query → length xs ≡ COMPLEX_COUNT → other ≢ query
    → value_at COMPLEX_COUNT (values_of COMPLEX_COUNT (map f (set xs place one)) none) (place_of other) none ≡ value_at COMPLEX_COUNT (values_of COMPLEX_COUNT (map f xs) none) (place_of other) none
lists_kept f xs one none place query other at complex whole apart =
    ap (λ (ys : List _). value_at COMPLEX_COUNT (values_of COMPLEX_COUNT ys none) (place_of other) none) (map-set f xs place one)
    ∙ value_kept COMPLEX_COUNT (map f xs) place (f one) none (length-map xs f ∙ whole) (place_of other) (λ e. other_place other query complex apart (e ∙ at))

-- none of these is there twice
abbrev pub AreApart : List ℕ → Type 0
AreApart [] = Unit {0}
AreApart (x ∷ xs) = AllByRecursion (λ y. y ≢ x) xs × AreApart xs

-- the place of what stands at a place is that place
placed_first : (b : Bool) (x n : ℕ) → (x == x) ≡ b → (if b then 0 else n) ≡ 0
placed_first true x n e = refl
placed_first false x n e = absurd (eqb-false x x e refl)

placed_later : (b : Bool) (y x k n : ℕ) → (y == x) ≡ b → y ≢ x → n ≡ k → (if b then 0 else suc n) ≡ suc k
placed_later true y x k n e apart is = absurd (apart (eqb-true y x e))
placed_later false y x k n e apart is = ap suc is

placed : (xs : List ℕ) → AreApart xs → (k d : ℕ) → k < length xs → index_in xs (get_or xs k d) ≡ k
placed [] apart k d lt = absurd (omega (arith, lt))
placed (x ∷ xs) apart zero d lt = placed_first (x == x) x (suc (index_in xs x)) refl
placed (x ∷ xs) apart (suc k) d lt =
    let y = get_or xs k d in
    let low : k < length xs = omega (arith, lt) in
    placed_later (y == x) y x k (index_in xs y) refl (of_one (λ z. z ≢ x) xs y (one_at xs k d low) apart.0) (placed xs apart.1 k d low)

-- values are one where those of each place are
same_at : {A : Type 0} (n : ℕ) (none : A) (a b : Values n A) → ((k : ℕ) → k < n → value_at n a k none ≡ value_at n b k none) → a ≡ b
same_at zero none a b p = refl
same_at (suc n) none a b p = λ i. (p zero (omega arith) i, same_at n none a.1 b.1 (λ k lt. p (suc k) (omega (arith, lt))) i)

pub complex_apart : AreApart complex_queries
complex_apart = search rules

-- values are one where those of each query are
pub same_values : {A : Type 0} (none : A) (a b : Values COMPLEX_COUNT A) → ((q : ℕ) → value_at COMPLEX_COUNT a (place_of q) none ≡ value_at COMPLEX_COUNT b (place_of q) none) → a ≡ b
same_values none a b p = same_at COMPLEX_COUNT none a b (λ k lt.
    subst (λ (n : ℕ). value_at COMPLEX_COUNT a n none ≡ value_at COMPLEX_COUNT b n none) (placed complex_queries complex_apart k 0 lt) (p (get_or complex_queries k 0)))

-- what holds holds where a result is fine
pub always : {T E : Type 0} {P : Type 0} (r : Result T E) → P → OnOk r P
always (Ok _) p = p
always (Err _) p = tt
