-- The reads so far are counted.
use Rattle.std.proofs.Common.{◌≡◌, take, count_by}
use Rattle.snb_history.specs.declared.step.Step.{Step}
use Rattle.snb_plan.proofs.plan.read_steps.Given as goal

abbrev pub invariant-loop-step : goal.invariant-loop-step
invariant-loop-step l = l.reads ≡ count_by (λ (s : Step). s.query) (take l.step-index l.steps)
