-- The persons who are met within a number of steps, with their distances.
use Rattle.std.specs.Prelude.{◌≡◌, ℕ, ◌≤◌, List, Option, Some, IsSome}
use Rattle.snb_schema.specs.declared.row.Row.{Row}
use Rattle.snb_read_model.specs.Distance.{IsDistance, FriendPath}

-- those met have their distances, none above `steps`, and whoever can be reached in so many steps
-- is met
pub record AreDistances (g : List Row) (start steps : ℕ) (met : ℕ → Option ℕ) : Type 0 where
  pub told : (q n : ℕ) → met q ≡ Some n → IsDistance g start q n × (n ≤ steps)
  pub near : (q n : ℕ) → FriendPath g start q n → n ≤ steps → IsSome (met q)
