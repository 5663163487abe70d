use Rattle.std.proofs.Common.{length}
use Rattle.snb_schema.proofs.query.+index_in.Given as goal

abbrev pub decreases-index_in : goal.decreases-index_in
decreases-index_in l = length l.kinds.now
