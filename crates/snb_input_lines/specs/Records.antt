-- The fields of a line, by their places.
use Rattle.std.specs.Prelude.{ℕ, zero, suc, List, [], ◌∷◌, Option, Some, None}

-- the field at this place, counted from 0
unfoldable pub field_at : List (List ℕ) → ℕ → Option (List ℕ)
field_at [] i = None
field_at (f ∷ fs) zero = Some f
field_at (f ∷ fs) (suc i) = field_at fs i
