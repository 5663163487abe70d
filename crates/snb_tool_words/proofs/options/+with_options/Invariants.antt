use Rattle.std.proofs.Common.{length}
use Rattle.snb_tool_words.proofs.options.+with_options.Given as goal

abbrev pub decreases-with_options : goal.decreases-with_options
decreases-with_options l = length l.words.now
