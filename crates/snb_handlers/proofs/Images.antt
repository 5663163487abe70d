-- The images of a list's elements.
use Rattle.std.proofs.Common.{◌≡◌, ◌∙◌, ℕ, ◌<◌, List, length, get_or, map, ap, sym}
use Rattle.std.proofs.lemmas.List.{get_or-map}

-- at the place of an element stands its image
pub image_at : {X Y : Type 0} (f : X → Y) (xs : List X) (i : ℕ) (x : X) (e : Y) → i < length xs → x ≡ get_or xs i x → get_or (map f xs) i e ≡ f x
image_at f xs i x e below is = get_or-map f xs i x e below ∙ ap f (sym is)
