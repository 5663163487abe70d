-- Laws that proofs above cite: of references, of lists and of the ends of a range.
use Rattle.std.proofs.Common.{◌≡◌, ◌≤◌, ℕ, Bool, true, false, cond, List, [], ◌∷◌, Option, Some, None, map, filter, refl, sym, ap, arith}
use Rattle.std.specs.Borrow.{Bor}
use Rattle.std.specs.List.{All}
use Rattle.std.specs.Option.{is_some, option_copied}
use Rattle.std.specs.Ordering.{is_le, is_lt, nat_cmp}
use Rattle.std.proofs.lemmas.List.Elements.{All-tail}
use mathlib.Core.Bool.{false≢true}

-- a reference is there where its value is
pub some_copied : {X : Type 0} (o : Option (Bor X)) → is_some o ≡ is_some (option_copied o)
some_copied None = refl
some_copied (Some x) = refl

-- what a filter keeps of entries is what it keeps of their rows
pub filter_map : {X Y : Type 0} (f : X → Y) (p : X → Bool) (q : Y → Bool) (xs : List X) → All (λ x. q (f x) ≡ p x) xs → map f (filter p xs) ≡ filter q (map f xs)
filter_map f p q [] same = refl
filter_map f p q (x ∷ xs) same = by (p x) (q (f x)) (same 0 x (omega arith)) (filter_map f p q xs (All-tail (λ y. q (f y) ≡ p y) x xs same))
  where
    by : (a b : Bool) → b ≡ a → map f (filter p xs) ≡ filter q (map f xs) → map f (cond a (x ∷ filter p xs) (filter p xs)) ≡ cond b (f x ∷ filter q (map f xs)) (filter q (map f xs))
    by true true e rest = ap (λ ys. f x ∷ ys) rest
    by false false e rest = rest
    by true false e rest = absurd (false≢true e)
    by false true e rest = absurd (false≢true (sym e))

pub low_end : (b : ℕ) → is_le (nat_cmp 0 b) ≡ true
low_end b = grind arith

pub high_end : (most b : ℕ) → b ≤ most → is_lt (nat_cmp most b) ≡ false
high_end most b l = grind (arith, l)
