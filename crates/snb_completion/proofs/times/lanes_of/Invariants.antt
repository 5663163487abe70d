use Rattle.std.proofs.Common.{◌≡◌, ◌<◌, ℕ, length, get_or}
use Rattle.snb_completion.specs.declared.times.LaneTimes.{LaneTimes}
use Rattle.snb_completion.specs.Progress.{nothing_started}
use Rattle.snb_completion.specs.Waiting.{IsLaneOf}
use Rattle.snb_completion.proofs.times.lanes_of.Given as goal

abbrev pub invariant-loop-lane : goal.invariant-loop-lane
invariant-loop-lane l = (length l.lanes.items ≡ l.lane)
    × ((i : ℕ) (d : LaneTimes) → i < length l.lanes.items → IsLaneOf (nothing_started l.fn.schedule) i (get_or l.lanes.items i d))
