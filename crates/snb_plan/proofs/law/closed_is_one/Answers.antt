use Rattle.snb_plan.proofs.OneRefusal.{closed_is_one}
use Rattle.snb_plan.proofs.law.closed_is_one.Goals as goal

pub returns : goal.returns
returns g c = closed_is_one (g.H.Held.holds c.args._held.now)
