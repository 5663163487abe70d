-- The steps that are no reads are those of updates.
use Rattle.std.proofs.Common.{List, length, ap, ◌∙◌, arith, count_by}
use Rattle.snb_plan.specs.Closed.{Update}
use Rattle.snb_history.specs.declared.step.Step.{Step}
use Rattle.snb_plan.proofs.Viewing.{updates_counted, updates_seen}
use Rattle.snb_plan.proofs.plan.Plan.updates.Goals as goal

pub returns : goal.returns
returns c =
    let all = updates_counted c.self.inside.lanes c.self.inside.schedule.steps in
    let seen = ap (λ (us : List Update). length us) (updates_seen c.self.inside.lanes c.self.inside.lists c.self.inside.reads.items c.self.inside.schedule c.args.self.now c.self.view_is) in
    let steps = ap (λ (ss : List Step). length ss) c.steps-steps.ensures.value in
    let reads = c.read_steps.ensures ∙ ap (λ (ss : List Step). count_by (λ (s : Step). s.query) ss) c.steps-steps.ensures.value in
    omega (arith, all, seen, steps, reads)
