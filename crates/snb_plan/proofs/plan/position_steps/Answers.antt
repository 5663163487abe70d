use Rattle.std.proofs.Common.{◌≤◌, ◌∙◌, ◌++◌, ◌∷◌, [], List, ℕ, ap, get_or, map, subst, sym, take}
use Rattle.std.specs.List.{All}
use Rattle.std.proofs.lemmas.List.{map_more}
use Rattle.std.proofs.lemmas.List.Elements.{All-push}
use Rattle.snb_schema.specs.declared.limits.TheConstants.{MAX_AT}
use Rattle.snb_history.specs.declared.step.Step.{Step}
use Rattle.snb_plan.specs.Positions.{position_step, position_t}
use Rattle.snb_plan.specs.Instances.{no_position}
use Rattle.snb_plan.proofs.plan.position_steps.Goals as goal

pub loop-position-preserved : goal.loop-position-preserved
loop-position-preserved c =
    let lanes = c.args.lanes.now in
    let positions = c.args.positions.now in
    let k = c.loop-position.position-index in
    let so_far = c.loop-position.invariant in (
      c.in_ok-push.ensures.items
          ∙ ap (λ (steps : List Step). steps ++ c.position_step.result ∷ []) so_far.0
          ∙ ap (λ (step : Step). map (position_step lanes c.args.ratio (position_t positions)) (take k positions) ++ step ∷ []) (c.position_step.ensures.step ∙ ap (λ (t : ℕ). position_step lanes c.args.ratio t (get_or positions k no_position)) so_far.1)
          ∙ sym (map_more (position_step lanes c.args.ratio (position_t positions)) positions k no_position c.loop-position-test.true),
      so_far.1,
      subst (All (λ (step : Step). step.due ≤ MAX_AT)) (sym c.in_ok-push.ensures.items)
          (All-push (λ (step : Step). step.due ≤ MAX_AT) c.loop-position.steps.items c.position_step.result so_far.2 c.position_step.ensures.due),
    )
