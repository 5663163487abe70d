use Rattle.snb_plan.proofs.Viewing.{line_task, read_task}
use Rattle.snb_plan.proofs.plan.Plan.task.Goals as goal

pub returns-then-step : goal.returns-then-step
returns-then-step c =
    read_task c.self.inside.lanes c.self.inside.lists c.self.inside.reads.items c.self.inside.schedule c.args.self.now c.steps.result.now c.args.op _ c.self.view_is c.steps.ensures.value c.requires c.if-step.true
    c.self.invariant.0 c.index-instance.result.now c.of-list.result.now c.index-list-at.result c.index-instance.ensures c.of-list.ensures.value c.index-list-at.is

pub returns : goal.returns
returns c =
    line_task c.self.inside.lanes c.self.inside.lists c.self.inside.reads.items c.self.inside.schedule c.args.self.now c.steps.result.now c.args.op _ c.self.view_is c.steps.ensures.value c.requires c.if-step.false
    c.self.invariant.0 c.lane_of.result.now c.index-lane_of-step.result c.lane_of.ensures c.index-lane_of-step.is
