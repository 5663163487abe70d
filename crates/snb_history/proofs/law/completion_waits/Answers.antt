use Rattle.snb_history.proofs.Times.{completion_waits}
use Rattle.snb_history.proofs.law.completion_waits.Goals as goal

pub returns : goal.returns
returns c = completion_waits
