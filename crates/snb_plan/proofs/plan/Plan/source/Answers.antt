use Rattle.snb_plan.proofs.Viewing.{line_source, read_source}
use Rattle.snb_plan.proofs.plan.Plan.source.Goals as goal

pub returns-then-step : goal.returns-then-step
returns-then-step c =
    read_source c.self.inside.lanes c.self.inside.lists c.self.inside.reads.items c.self.inside.schedule c.args.self.now c.steps.result.now c.args.op _ c.self.view_is c.steps.ensures.value c.requires c.if-step.true

pub returns : goal.returns
returns c =
    line_source c.self.inside.lanes c.self.inside.lists c.self.inside.reads.items c.self.inside.schedule c.args.self.now c.steps.result.now c.args.op _ c.self.view_is c.steps.ensures.value c.requires c.if-step.false
    c.self.invariant.0 c.file_of.result c.lane_of.result.now c.index-lane_of-step.result c.file_of.ensures c.lane_of.ensures c.index-lane_of-step.is
