-- Values for the complex queries, each at its query's place.
use Rattle.std.proofs.Common.{refl}
use Rattle.std.specs.Prelude.{◌≡◌, ℕ, zero, suc, ◌==◌, List, [], ◌∷◌, if◌then◌else◌, length, ⊤}
use Rattle.snb_schema.specs.Queries.{complex_queries}

-- the place of a number in a list; one that isn't there has the place past the last
abbrev pub index_in : List ℕ → ℕ → ℕ
index_in [] q = 0
index_in (x ∷ xs) q = if q == x then 0 else suc (index_in xs q)

-- the place of a complex query among the seven; any other number has place 7, past the last
abbrev pub place_of : ℕ → ℕ
place_of q = index_in complex_queries q

-- so many values, by place
abbrev pub Values : ℕ → Type 0 → Type 0
Values zero A = ⊤
Values (suc n) A = A × Values n A

-- the value at a place, and this one past the last
abbrev pub value_at : {A : Type 0} (n : ℕ) → Values n A → ℕ → A → A
value_at zero values place none = none
value_at (suc n) values zero none = values.0
value_at (suc n) values (suc place) none = value_at n values.1 place none

-- the first values of a list, and this one where it has no more
abbrev pub values_of : {A : Type 0} (n : ℕ) → List A → A → Values n A
values_of zero xs none = tt
values_of (suc n) [] none = (none, values_of n [] none)
values_of (suc n) (x ∷ xs) none = (x, values_of n xs none)

-- values as a list
abbrev pub as_list : {A : Type 0} (n : ℕ) → Values n A → List A
as_list zero values = []
as_list (suc n) values = values.0 ∷ as_list n values.1

-- the values of a list give the list back
pub listed_back : {A : Type 0} (n : ℕ) (xs : List A) (none : A) → length xs ≡ n
    → as_list n (values_of n xs none) ≡ xs
listed_back zero [] none e = refl
listed_back zero (x ∷ xs) none e = absurd (cc)
listed_back (suc n) [] none e = absurd (cc)
listed_back (suc n) (x ∷ xs) none e =
    let one_less : length xs ≡ n = cc in λ i. x ∷ listed_back n xs none one_less i
