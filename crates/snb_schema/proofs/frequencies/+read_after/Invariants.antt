-- What follows a comma is shorter.
use Rattle.std.proofs.Common.{length}
use Rattle.snb_schema.proofs.frequencies.+read_after.Given as goal

abbrev pub decreases-read_after : goal.decreases-read_after
decreases-read_after l = length l.text.now
