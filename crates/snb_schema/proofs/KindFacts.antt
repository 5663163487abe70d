-- Facts on the numbers of the complex reads.
use Rattle.std.proofs.Common.{◌≡◌, ◌≢◌, ◌==◌, ◌∷◌, ◌∙◌, [], ℕ, List, Bool, true, false, inl, inr, refl, rules, sym, ap, map, Some, if◌then◌else◌}
use Rattle.std.proofs.lemmas.Bool.{eqb-true, eqb-false}
use Rattle.std.proofs.lemmas.Option.{same_Some}
use Rattle.snb_schema.specs.declared.query.ReadKind.{ReadKind}
use Rattle.snb_schema.specs.Queries.{IsComplex, IsOneOf, complex_kind, numbered}
use Rattle.snb_schema.specs.ReadKinds.{complex_reads, number_of_kind}

-- the kind that is found by a number has it
is_by_test : (b : Bool) (kind found : ReadKind) (kinds : List ReadKind) (q : ℕ) → (number_of_kind kind == q) ≡ b → (numbered kinds q ≡ Some found → number_of_kind found ≡ q)
    → (if b then Some kind else numbered kinds q) ≡ Some found → number_of_kind found ≡ q
is_by_test true kind found kinds q e later is = ap number_of_kind (sym (same_Some kind found is)) ∙ eqb-true (number_of_kind kind) q e
is_by_test false kind found kinds q e later is = later is

is_of : (kinds : List ReadKind) (q : ℕ) (found : ReadKind) → numbered kinds q ≡ Some found → number_of_kind found ≡ q
is_of [] q found is = absurd cc
is_of (kind ∷ kinds) q found is = is_by_test (number_of_kind kind == q) kind found kinds q refl (is_of kinds q found) is

pub numbered_is : (q : ℕ) (kind : ReadKind) → complex_kind q ≡ Some kind → number_of_kind kind ≡ q
numbered_is q kind is = is_of complex_reads q kind is

-- one is found by the number of one of them
some_by_test : (b : Bool) (kind : ReadKind) (kinds : List ReadKind) (q : ℕ) → (number_of_kind kind == q) ≡ b → (IsOneOf q (map number_of_kind kinds) → (found : ReadKind) × (numbered kinds q ≡ Some found))
    → IsOneOf q (map number_of_kind (kind ∷ kinds)) → (found : ReadKind) × ((if b then Some kind else numbered kinds q) ≡ Some found)
some_by_test true kind kinds q e later one = (kind, refl)
some_by_test false kind kinds q e later (inl here) = absurd (eqb-false (number_of_kind kind) q e (sym here))
some_by_test false kind kinds q e later (inr there) = later there

some_of : (kinds : List ReadKind) (q : ℕ) → IsOneOf q (map number_of_kind kinds) → (found : ReadKind) × (numbered kinds q ≡ Some found)
some_of [] q one = absurd one
some_of (kind ∷ kinds) q one = some_by_test (number_of_kind kind == q) kind kinds q refl (some_of kinds q) one

pub numbered_some : (q : ℕ) → IsComplex q → (kind : ReadKind) × (complex_kind q ≡ Some kind)
numbered_some q complex = some_of complex_reads q complex

-- a complex read is the one that is found by its number
own : (kind : ReadKind) → 0 ≢ number_of_kind kind → complex_kind (number_of_kind kind) ≡ Some kind
own kind some = search rules

-- complex reads of one number are of one kind
pub one_number : (a b : ReadKind) → 0 ≢ number_of_kind a → number_of_kind a ≡ number_of_kind b → a ≡ b
one_number a b some same =
    same_Some a b (sym (own a some) ∙ ap complex_kind same ∙ own b (λ none. some (none ∙ sym same)))
