use Rattle.std.proofs.Common.{length}
use Rattle.snb_handlers.proofs.table.+first_without.Given as goal

abbrev pub decreases-first_without : goal.decreases-first_without
decreases-first_without g l = length l.kinds.now
