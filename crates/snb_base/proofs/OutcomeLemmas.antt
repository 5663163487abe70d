-- What options, results, tests and orderings tell.
use Rattle.std.proofs.Common.{◌≡◌, ◌∙◌, ◌↔◌, ℕ, List, ◌<◌, ◌⊎◌, Bool, true, false, Option, Some, None, Result, Ok, Err, IfOk, OnErr, IsTrue, inl, inr, refl, sym, ap, arith, min, nat_eq}
use Rattle.std.proofs.lemmas.Bool.{cases_lt}
use Rattle.std.proofs.lemmas.Bool.Decides.{nat_tests}
use Rattle.std.specs.Cmp.{nat_cmp_is}
use Rattle.std.specs.Ordering.{is_eq, nat_cmp, ordering_then}
use Rattle.std.specs.declared.cmp.Ordering.{Ordering}
use Rattle.std.specs.declared.cmp.Ordering.TheVariants.{Less, Equal, Greater}
use mathlib.Core.Bool.{false≢true}
use Rattle.snb_base.specs.Spellings.{SpellsId}

-- nothing is there where whatever is there is absurd, and a value is not nothing
pub none_of : {X : Type 0} (o : Option X) → ((v : X) → o ≡ Some v → ⊥) → o ≡ None
none_of None h = refl
none_of (Some v) h = absurd (h v refl)

pub none_some : {K : Type 0} (o : Option K) (k : K) → o ≡ None → o ≡ Some k → ⊥
none_some o k p q = cc

-- what holds of each value, or anyway
pub if_ok : {T E : Type 0} {P Q : T → Type 0} (r : Result T E) → ((x : T) → P x → Q x) → IfOk r P → IfOk r Q
if_ok (Ok x) f p = f x p
if_ok (Err e) f p = tt

pub on_any_err : {T E P : Type 0} (r : Result T E) → P → OnErr r P
on_any_err (Ok x) p = tt
on_any_err (Err e) p = p

-- where a test that decides something fails, that does not hold
pub not_held : {H : Type 0} (test : Bool) → IsTrue test ↔ H → test ≡ false → ¬ H
not_held true same e = absurd (false≢true (sym e))
not_held false same e = λ h. false≢true (same.1 h)

-- an ordering that passes for equal is Equal
pub equal_from : (r : Ordering) → is_eq r ≡ true → r ≡ Equal
equal_from Less e = absurd (false≢true e)
equal_from Equal e = refl
equal_from Greater e = absurd (false≢true e)

-- two orderings, the second where the first is Equal
pub then_equal : (o p : Ordering) → ordering_then o p ≡ Equal → (o ≡ Equal) × (p ≡ Equal)
then_equal Less p e = absurd (false≢true (ap is_eq e))
then_equal Equal p e = (refl, e)
then_equal Greater p e = absurd (false≢true (ap is_eq e))

pub then_last : (o : Ordering) → ordering_then o Equal ≡ o
then_last Less = refl
then_last Equal = refl
then_last Greater = refl

-- what a comparison of two numbers is
pub compares_less : (a b : ℕ) → a < b → nat_cmp a b ≡ Less
compares_less a b h = sym (nat_cmp_is a b Less h)

pub compares_greater : (a b : ℕ) → b < a → nat_cmp a b ≡ Greater
compares_greater a b h = sym (nat_cmp_is a b Greater h)

-- numbers that compare equal are one
pub same_number : (a b : ℕ) → nat_eq a b ≡ true → a ≡ b
same_number a b e = grind (arith, nat_tests)

-- the lesser of two numbers is one of them
pub min_is : (a b : ℕ) → (min a b ≡ a) ⊎ (min a b ≡ b)
min_is a b = elim (cases_lt a b) [ inl lt ↦ inl (omega arith) | inr ge ↦ inr (omega arith) ]

-- two numbers that one text spells are one
pub one_number : (x : List ℕ) (m n : ℕ) → SpellsId x m → SpellsId x n → m ≡ n
one_number x m n a b = a.value ∙ sym b.value
