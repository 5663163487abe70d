-- Values that the numbers of queries give.
use Rattle.std.proofs.Common.{◌≡◌, ◌≢◌, ◌==◌, ◌∙◌, ◌∷◌, [], ℕ, suc, Bool, true, false, List, if◌then◌else◌, inl, inr, length, map, refl, sym, ap, subst}
use Rattle.std.proofs.lemmas.Bool.{cases_eq, eqb-true}
use Rattle.snb_schema.specs.declared.query.TheConstants.{COMPLEX_COUNT}
use Rattle.snb_schema.specs.Queries.{complex_queries}
use Rattle.snb_schema.specs.QueryPlaces.{index_in, place_of, value_at, values_of}

module _ {A : Type 0} (f : ℕ → A) (none : A) where
  -- a number that gives nothing has no value
  by_test : (b : Bool) (x q : ℕ) (xs : List ℕ) → (q == x) ≡ b → f q ≡ none → value_at (length xs) (values_of (length xs) (map f xs) none) (index_in xs q) none ≡ none
      → value_at (suc (length xs)) (f x, values_of (length xs) (map f xs) none) (if b then 0 else suc (index_in xs q)) none ≡ none
  by_test true x q xs e nothing later = ap f (sym (eqb-true q x e)) ∙ nothing
  by_test false x q xs e nothing later = later

  nothing_at : (xs : List ℕ) (q : ℕ) → f q ≡ none → value_at (length xs) (values_of (length xs) (map f xs) none) (index_in xs q) none ≡ none
  nothing_at [] q nothing = refl
  nothing_at (x ∷ xs) q nothing = by_test (q == x) x q xs refl nothing (nothing_at xs q nothing)

  -- where all but the queries 2 and 13 give nothing, each has the value that it gives
  pub at_query : ((q : ℕ) → q ≢ 2 → q ≢ 13 → f q ≡ none) → (q : ℕ) → value_at COMPLEX_COUNT (values_of COMPLEX_COUNT (map f complex_queries) none) (place_of q) none ≡ f q
  at_query others q = elim (cases_eq q 2) [
    | inl two ↦ subst (λ (n : ℕ). value_at COMPLEX_COUNT (values_of COMPLEX_COUNT (map f complex_queries) none) (place_of n) none ≡ f n) (sym two) refl
    | inr not_two ↦ elim (cases_eq q 13) [
      | inl thirteen ↦ subst (λ (n : ℕ). value_at COMPLEX_COUNT (values_of COMPLEX_COUNT (map f complex_queries) none) (place_of n) none ≡ f n) (sym thirteen) refl
      | inr not_thirteen ↦ (let nothing = others q not_two not_thirteen in nothing_at complex_queries q nothing ∙ sym nothing)
    ]
  ]
