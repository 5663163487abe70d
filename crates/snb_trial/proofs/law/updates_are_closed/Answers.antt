use Rattle.snb_trial.proofs.Closed.{closed}
use Rattle.snb_trial.proofs.law.updates_are_closed.Goals as goal

pub returns : goal.returns
returns c = closed
