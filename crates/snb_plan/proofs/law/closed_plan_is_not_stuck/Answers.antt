use Rattle.snb_plan.proofs.Timely.{not_stuck, closed_plan_is_timely}
use Rattle.snb_plan.proofs.law.closed_plan_is_not_stuck.Goals as goal

pub returns-clause-timely : goal.returns-clause-timely
returns-clause-timely g c = closed_plan_is_timely (g.H.Held.holds c.args._held.now)

pub returns-clause-goes_on : goal.returns-clause-goes_on
returns-clause-goes_on g c = not_stuck (g.H.Held.holds c.args._held.now)
