use Rattle.snb_tool.proofs.ValidLemmas.{expect_in_short}
use Rattle.snb_tool.proofs.law.expect_in_short.Goals as goal

pub returns : goal.returns
returns c = expect_in_short c.one_command.ensures
