-- What lists contain, and facts of options, results and orderings. `snb_base` has them too; this crate waits for no other.
use Rattle.std.proofs.Common.{◌≡◌, ◌<◌, ◌⊎◌, ℕ, zero, suc, true, List, ◌∷◌, length, get_or, Option, Some, None, Result, Ok, Err, OnErr, Contains, inl, inr, refl, arith}
use mathlib.Core.Bool.{false≢true}
use Rattle.std.specs.declared.cmp.Ordering.{Ordering}
use Rattle.std.specs.declared.cmp.Ordering.TheVariants.{Less, Equal, Greater}
use Rattle.std.specs.Ordering.{is_eq}

-- an element of a list is its first or one of the rest
pub contains_cases : {X : Type 0} (y : X) (ys : List X) (x : X) → Contains (y ∷ ys) x → (y ≡ x) ⊎ Contains ys x
contains_cases y ys x h = by_place h.0 h.1 h.2
  where
    by_place : (k : ℕ) → k < length (y ∷ ys) → get_or (y ∷ ys) k x ≡ x → (y ≡ x) ⊎ Contains ys x
    by_place zero l e = inl e
    by_place (suc k) l e = inr (k, omega arith, e)

pub contains_here : {X : Type 0} (y : X) (ys : List X) → Contains (y ∷ ys) y
contains_here y ys = (0, omega arith, refl)

pub contains_there : {X : Type 0} (y : X) (ys : List X) (x : X) → Contains ys x → Contains (y ∷ ys) x
contains_there y ys x h = (suc h.0, (let l = h.1 in omega arith), h.2)

-- an option without a value
pub none_of : {X : Type 0} (o : Option X) → ((v : X) → o ≡ Some v → ⊥) → o ≡ None
none_of None h = refl
none_of (Some v) h = absurd (h v refl)

-- what holds anyway
pub on_any_err : {T E P : Type 0} (r : Result T E) → P → OnErr r P
on_any_err (Ok x) p = tt
on_any_err (Err e) p = p

-- an ordering that passes for equal is Equal
pub equal_from : (r : Ordering) → is_eq r ≡ true → r ≡ Equal
equal_from Less e = absurd (false≢true e)
equal_from Equal e = refl
equal_from Greater e = absurd (false≢true e)
