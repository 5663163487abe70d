use Rattle.snb_history.proofs.Planned.{planned_is_timely}
use Rattle.snb_history.proofs.law.planned_is_timely.Goals as goal

pub returns : goal.returns
returns c = planned_is_timely
