-- Facts about lists: where elements stand, and what is taken out of a list.
use Rattle.std.proofs.Common.{◌≡◌, ◌∷◌, ◌++◌, ◌∙◌, ℕ, ◌+◌, ◌<◌, List, take, drop, Option, Some, sym, ap, arith, length-take}
use Rattle.std.specs.Prelude.{Contains, slice_get}
use Rattle.std.specs.List.{cons_option, filter_map}
use Rattle.std.proofs.lemmas.List.{get_or-take}
use Rattle.std.proofs.lemmas.List.Elements.{filter_map-append}
use Rattle.std.proofs.lemmas.Option.{get_or_from_slice_get, slice_get-get_or, slice_get_within}
use Rattle.snb_base.proofs.Laws.{gives, split_at}

-- ---- places

-- what stands before a place is an element of the front that ends there, and the other way round
pub in_front : {X : Type 0} (xs : List X) (j k : ℕ) (x : X) → slice_get xs j ≡ Some x → j < k → Contains (take k xs) x
in_front xs j k x e lt =
    let within = slice_get_within xs j x e in
    (j, omega (arith, length-take k xs), get_or-take k xs j x lt ∙ get_or_from_slice_get xs j x x e)

pub from_front : {X : Type 0} (xs : List X) (k : ℕ) (x : X) → Contains (take k xs) x → (j : ℕ) × (j < k) × (slice_get xs j ≡ Some x)
from_front xs k x c =
    let within = c.1 in
    let size = length-take k xs in
    let lt : c.0 < k = omega (arith, within, size) in
    (c.0, lt, slice_get-get_or xs c.0 x (omega (arith, within, size)) ∙ ap Some (sym (get_or-take k xs c.0 x lt) ∙ c.2))

-- ---- what is taken out

-- what is given is what stands before a place gives, what is given there, and what is given after it
pub given_split : {X Y : Type 0} (f : X → Option Y) (xs : List X) (k : ℕ) (x : X) (y : Y) → slice_get xs k ≡ Some x → f x ≡ Some y
    → filter_map f (take k xs) ++ y ∷ filter_map f (drop (k + 1) xs) ≡ filter_map f xs
given_split {X} {Y} f xs k x y e q =
    ap (λ (o : Option Y). filter_map f (take k xs) ++ cons_option o (filter_map f (drop (k + 1) xs))) (sym q)
    ∙ (sym (filter_map-append f (take k xs) (x ∷ drop (k + 1) xs)) ∙ ap (filter_map f) (split_at xs k x e))
