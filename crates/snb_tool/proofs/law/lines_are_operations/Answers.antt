use Rattle.snb_tool.proofs.EachLine.{lines_are_operations}
use Rattle.snb_tool.proofs.law.lines_are_operations.Goals as goal

pub returns : goal.returns
returns c = lines_are_operations
