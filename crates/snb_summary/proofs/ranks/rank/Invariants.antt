-- The value of rank r lies in the stretch that the bytes so far leave.
use Rattle.std.proofs.Common.{◌-◌, ◌*◌, ◌^◌}
use Rattle.snb_summary.proofs.Bucketing.{IsNarrowed}
use Rattle.snb_summary.proofs.ranks.rank.Given as goal

abbrev pub invariant-loop-byte : goal.invariant-loop-byte
invariant-loop-byte l = IsNarrowed l.values l.r l.low l.rest (2 ^ (64 - 8 * l.byte))
