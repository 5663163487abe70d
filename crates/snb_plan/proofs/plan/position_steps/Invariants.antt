-- The steps of the positions so far.
use Rattle.std.proofs.Common.{◌≡◌, ◌≤◌, All, map, take}
use Rattle.snb_schema.specs.declared.limits.TheConstants.{MAX_AT}
use Rattle.snb_history.specs.declared.step.Step.{Step}
use Rattle.snb_plan.specs.Positions.{position_step, position_t}
use Rattle.snb_plan.proofs.plan.position_steps.Given as goal

abbrev pub invariant-loop-position : goal.invariant-loop-position
invariant-loop-position l =
    (l.steps.items ≡ map (position_step l.lanes l.ratio (position_t l.positions)) (take l.position-index l.positions)) × (l.t0 ≡ position_t l.positions)
    × All (λ (step : Step). step.due ≤ MAX_AT) l.steps.items
