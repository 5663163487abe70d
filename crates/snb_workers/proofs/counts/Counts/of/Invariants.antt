-- The replies from the place on have been counted.
use Rattle.std.proofs.Common.{◌≡◌, ◌≤◌, length, drop}
use Rattle.snb_replica.specs.Counts.{AreCountsOf}
use Rattle.snb_workers.proofs.counts.Counts.of.Given as goal

abbrev pub invariant-loop-place : goal.invariant-loop-place
invariant-loop-place l = (length l.rows.items ≡ l.operations) × (l.place ≤ length l.replies) × AreCountsOf (drop l.place l.replies) l.rows.items

abbrev pub decreases-loop-place : goal.decreases-loop-place
decreases-loop-place l = l.place
