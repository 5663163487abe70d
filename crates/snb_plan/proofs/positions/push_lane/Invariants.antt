-- The positions of the lines so far are appended.
use Rattle.std.proofs.Common.{◌≡◌, ◌++◌, take}
use Rattle.snb_plan.specs.Instances.{lane_positions}
use Rattle.snb_plan.proofs.positions.push_lane.Given as goal

abbrev pub invariant-loop-place : goal.invariant-loop-place
invariant-loop-place l = l.positions.items ≡ l.fn.positions.items ++ lane_positions l.lane 0 (take l.place l.lines)
