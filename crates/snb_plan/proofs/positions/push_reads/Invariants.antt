-- The positions of the reads so far are appended.
use Rattle.std.proofs.Common.{◌≡◌, ◌++◌, take}
use Rattle.snb_plan.specs.Instances.{read_positions}
use Rattle.snb_plan.proofs.positions.push_reads.Given as goal

abbrev pub invariant-loop-place : goal.invariant-loop-place
invariant-loop-place l = l.positions.items ≡ l.fn.positions.items ++ read_positions l.fn.positions.items l.lane 0 (take l.place l.reads)
