-- So many values lie in the buckets that are passed, and they are too few.
use Rattle.std.proofs.Common.{◌≡◌, ◌+◌, ◌*◌, ◌^◌, ◌<◌}
use Rattle.snb_summary.specs.Ranks.{count_below}
use Rattle.snb_summary.proofs.ranks.find_bucket.Given as goal

abbrev pub invariant-loop-bucket : goal.invariant-loop-bucket
invariant-loop-bucket l = record {
  summed : count_below l.values l.low + l.before ≡ count_below l.values (l.low + l.bucket * 2 ^ l.shift);
  fewer : l.before < l.rest;
}
