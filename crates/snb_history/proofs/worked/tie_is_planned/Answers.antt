use Rattle.snb_history.proofs.Tied.{planned_tie}
use Rattle.snb_history.proofs.worked.tie_is_planned.Goals as goal

pub returns : goal.returns
returns c = planned_tie
