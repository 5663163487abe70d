use Rattle.snb_history.proofs.Times.{completion_rises}
use Rattle.snb_history.proofs.law.completion_rises.Goals as goal

pub returns : goal.returns
returns c = completion_rises
