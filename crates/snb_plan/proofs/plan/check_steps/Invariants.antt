-- The updates so far are closed, and what they add is kept.
use Rattle.std.proofs.Common.{take}
use Rattle.snb_plan.specs.Scheduled.{updates_at}
use Rattle.snb_plan.proofs.ClosedLemmas.{Stands}
use Rattle.snb_plan.proofs.plan.check_steps.Given as goal

abbrev pub invariant-loop-step : goal.invariant-loop-step
invariant-loop-step g l = Stands (g.H.Held.holds l.held) (updates_at l.lanes l.steps) (updates_at l.lanes (take l.step-index l.steps)) l.added
