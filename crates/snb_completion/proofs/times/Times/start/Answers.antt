use Rattle.std.proofs.Common.{◌≡◌, ◌<◌, List, length, get_or, subst, sym}
use Rattle.snb_history.specs.declared.step.Step.{Step}
use Rattle.snb_history.specs.Schedule.{no_step}
use Rattle.snb_completion.specs.Progress.{Progress}
use Rattle.snb_completion.proofs.Keeping.{AreTimesOf-start}
use Rattle.snb_completion.proofs.times.Times.start.Goals as goal

pub invariant_of-self : goal.invariant_of-self
invariant_of-self c =
    rw c.steps.ensures.value
    (AreTimesOf-start _ _ _ _ _ c.args.op c.self.invariant
    (subst (λ (p : Progress). c.args.op < length p.schedule.steps) (sym c.self.view_is) c.requires.within)
    (subst (λ (l : List Step). c.index_mut-times.result.now ≡ get_or c.self.inside.lanes.items (get_or l c.args.op no_step).lane c.index_mut-times.result.now)
    c.steps.ensures.value c.index_mut-times.ensures.value)
    c.remove.ensures.updates.0)
