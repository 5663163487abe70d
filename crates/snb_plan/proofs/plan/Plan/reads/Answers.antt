-- The steps of reads are as many as the queries.
use Rattle.std.proofs.Common.{List, length, ap, ◌∙◌, sym, count_by}
use Rattle.snb_plan.specs.Plans.{Plan, queries_in}
use Rattle.snb_history.specs.declared.step.Step.{Step}
use Rattle.snb_plan.proofs.Viewing.{queries_counted}
use Rattle.snb_plan.proofs.plan.Plan.reads.Goals as goal

pub returns : goal.returns
returns c =
    c.read_steps.ensures ∙ ap (λ (ss : List Step). count_by (λ (s : Step). s.query) ss) c.steps.ensures.value
    ∙ sym (queries_counted c.self.inside.lanes c.self.inside.lists c.self.inside.reads.items c.self.inside.schedule.steps)
    ∙ ap (λ (p : Plan). length (queries_in p)) c.self.view_is
