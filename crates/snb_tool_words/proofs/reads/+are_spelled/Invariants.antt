use Rattle.std.proofs.Common.{length}
use Rattle.snb_tool_words.proofs.reads.+are_spelled.Given as goal

abbrev pub decreases-are_spelled : goal.decreases-are_spelled
decreases-are_spelled l = length l.columns.now
