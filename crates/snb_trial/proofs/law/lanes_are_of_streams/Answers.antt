use Rattle.snb_trial.proofs.Spelled.{of_streams}
use Rattle.snb_trial.proofs.law.lanes_are_of_streams.Goals as goal

pub returns : goal.returns
returns c = of_streams c.own_line.ensures
