-- The values so far are counted.
use Rattle.std.proofs.Common.{◌≡◌, ◌^◌, length, take}
use Rattle.snb_summary.specs.Buckets.{AreCounts}
use Rattle.snb_summary.proofs.ranks.counts_of.Given as goal

abbrev pub invariant-loop-value : goal.invariant-loop-value
invariant-loop-value l = record {
  each : AreCounts (take l.value-index l.values) l.low (2 ^ l.shift) l.counts;
  size : length l.counts ≡ 256;
}
