use Rattle.snb_plan.proofs.OnePlan.{plan_is_one}
use Rattle.snb_plan.proofs.law.plan_is_one.Goals as goal

pub returns : goal.returns
returns c = plan_is_one
