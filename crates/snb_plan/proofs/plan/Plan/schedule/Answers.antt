use Rattle.snb_plan.proofs.Viewing.{schedule_again}
use Rattle.snb_plan.proofs.plan.Plan.schedule.Goals as goal

pub returns : goal.returns
returns c = schedule_again c.self.inside.lanes c.self.inside.lists c.self.inside.reads.items c.self.inside.schedule c.args.self.now c.self.view_is
