-- The positions of the lanes so far.
use Rattle.std.proofs.Common.{◌≡◌, take}
use Rattle.snb_plan.specs.Merging.{numbered_lanes}
use Rattle.snb_plan.specs.Instances.{all_positions}
use Rattle.snb_plan.proofs.positions.all_positions.Given as goal

abbrev pub invariant-loop-lane : goal.invariant-loop-lane
invariant-loop-lane l = l.positions.items ≡ all_positions 0 (take l.lane (numbered_lanes l.lanes))
