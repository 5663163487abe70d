-- The lists of operations that a schedule keeps for its lanes. Cited by contracts of private
-- functions alone.
use Rattle.std.specs.Prelude.{◌≡◌, ℕ, ◌<◌, List, length, slice_index_or, Vec}
use Rattle.std.specs.declared.alloc.Global.{Global}
use Rattle.snb_history.specs.Schedule.{Schedule, IsLane, IsPlanned}

-- the steps and kinds are a plan's, and there is a list for each lane
pub record AreLanesOf (s : Schedule) (lanes : List (Vec ℕ Global)) : Type 0 where
  pub planned : IsPlanned s
  pub counted : length lanes ≡ length s.kinds
  pub each : (l : ℕ) (d : Vec ℕ Global) → l < length lanes
      → IsLane s l (slice_index_or lanes l d).items
