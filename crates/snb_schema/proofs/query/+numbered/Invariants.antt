use Rattle.std.proofs.Common.{length}
use Rattle.snb_schema.proofs.query.+numbered.Given as goal

abbrev pub decreases-numbered : goal.decreases-numbered
decreases-numbered l = length l.kinds.now
