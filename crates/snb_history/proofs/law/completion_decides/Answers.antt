use Rattle.snb_history.proofs.Times.{completion_decides}
use Rattle.snb_history.proofs.law.completion_decides.Goals as goal

pub returns : goal.returns
returns c = completion_decides
