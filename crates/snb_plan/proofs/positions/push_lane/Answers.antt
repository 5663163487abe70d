use Rattle.std.proofs.Common.{◌∙◌, ◌++◌, ◌∷◌, [], List, ap, sym, append_assoc, take}
use Rattle.snb_schema.specs.declared.op.Line.{Line}
use Rattle.snb_plan.specs.declared.positions.Position.{Position}
use Rattle.snb_plan.specs.Instances.{lane_positions}
use Rattle.snb_plan.proofs.Positioning.{lane_next, position}
use Rattle.snb_plan.proofs.positions.push_lane.Goals as goal

pub loop-place-preserved : goal.loop-place-preserved
loop-place-preserved c =
    let old = c.args.positions.now.items in
    let line = c.index-lines-place.result in
    let done = lane_positions c.args.lane 0 (take c.loop-place.place c.args.lines.now) in
    let more = lane_next c.args.lane c.args.lines.now c.loop-place.place line c.loop-place-test.true in
    c.in_ok-push.ensures.items
    ∙ ap (λ (positions : List Position). positions ++ position line.t c.args.lane c.loop-place.place ∷ []) c.loop-place.invariant
    ∙ append_assoc old done (position line.t c.args.lane c.loop-place.place ∷ [])
    ∙ ap (λ (x : Line). old ++ (done ++ position x.t c.args.lane c.loop-place.place ∷ [])) c.index-lines-place.is
    ∙ ap (λ (positions : List Position). old ++ positions) (sym more)
