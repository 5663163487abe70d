use Rattle.std.proofs.Common.{◌∙◌, List, ap, subst}
use Rattle.std.specs.Prelude.{Err}
use Rattle.snb_schema.specs.declared.fault.Fault.{Fault}
use Rattle.snb_history.specs.declared.step.Step.{Step}
use Rattle.snb_schema.specs.Faults.{OnBad}
use Rattle.snb_plan.specs.Closed.{Update, IsClosed, IsFirstWrong}
use Rattle.snb_plan.specs.Scheduled.{updates_at}
use Rattle.snb_plan.proofs.Viewing.{updates_seen}
use Rattle.snb_plan.proofs.plan.Plan.closed.Goals as goal

pub returns-in-Ok-clause-ok : goal.returns-in-Ok-clause-ok
returns-in-Ok-clause-ok g c =
    subst (λ (us : List Update). IsClosed (g.H.Held.holds c.args.held.now) us)
    (ap (λ (steps : List Step). updates_at c.self.inside.lanes steps) c.steps.ensures.value
    ∙ updates_seen c.self.inside.lanes c.self.inside.lists c.self.inside.reads.items c.self.inside.schedule c.args.self.now c.self.view_is)
    c.in-Ok.ensures.ok

pub returns-in-Err-Bad-clause-bad : goal.returns-in-Err-Bad-clause-bad
returns-in-Err-Bad-clause-bad g c =
    subst (λ (us : List Update). IsFirstWrong (g.H.Held.holds c.args.held.now) us c.in-Err-Bad.refusal)
    (ap (λ (steps : List Step). updates_at c.self.inside.lanes steps) c.steps.ensures.value
    ∙ updates_seen c.self.inside.lanes c.self.inside.lists c.self.inside.reads.items c.self.inside.schedule c.args.self.now c.self.view_is)
    (subst (λ (f : Fault). OnBad {A = Unit {0}} (Err f) (IsFirstWrong (g.H.Held.holds c.args.held.now) (updates_at c.self.inside.lanes c.steps.result.now))) c.in-Err-Bad.field-0-is c.in-Err-Bad.ensures.bad)
