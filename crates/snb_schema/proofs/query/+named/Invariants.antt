use Rattle.std.proofs.Common.{length}
use Rattle.snb_schema.proofs.query.+named.Given as goal

abbrev pub decreases-named : goal.decreases-named
decreases-named l = length l.kinds.now
