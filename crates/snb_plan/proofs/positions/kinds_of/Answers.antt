use Rattle.std.proofs.Common.{◌∙◌, ◌++◌, ◌∷◌, [], List, ap, sym, append_assoc, arith, map, take}
use Rattle.std.proofs.lemmas.List.{map_more}
use Rattle.snb_history.specs.declared.step.LaneKind.{LaneKind}
use Rattle.snb_history.specs.declared.step.LaneKind.TheVariants.{Person, Forum}
use Rattle.snb_plan.proofs.positions.kinds_of.Goals as goal

pub loop-preserved : goal.loop-preserved
loop-preserved c =
    let more = map_more (λ _. Person) c.args.lanes.now.persons c.loop.counter [] (let lt = c.loop-test.true in let e = c.persons-end.ensures.value in omega (arith, lt, e)) in
    c.in_ok-push.ensures.items ∙ ap (λ (ks : List LaneKind). ks ++ Person ∷ []) c.loop.invariant ∙ sym more

pub loop-2-preserved : goal.loop-2-preserved
loop-2-preserved c =
    let lanes = c.args.lanes.now in
    let persons = map (λ _. Person) lanes.persons in
    let more = map_more (λ _. Forum) lanes.forums c.loop-2.counter [] (let lt = c.loop-2-test.true in let e = c.forums-end.ensures.value in omega (arith, lt, e)) in
    c.in_ok-push-2.ensures.items ∙ ap (λ (ks : List LaneKind). ks ++ Forum ∷ []) c.loop-2.invariant
    ∙ append_assoc persons (map (λ _. Forum) (take c.loop-2.counter lanes.forums)) (Forum ∷ [])
    ∙ ap (λ (ks : List LaneKind). persons ++ ks) (sym more)
