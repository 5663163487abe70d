use Rattle.std.proofs.Common.{◌∙◌, ◌++◌, List, ap, sym, arith, take}
use Rattle.snb_schema.specs.declared.op.Line.{Line}
use Rattle.snb_plan.specs.declared.positions.Position.{Position}
use Rattle.snb_plan.specs.Merging.{numbered_lanes}
use Rattle.snb_plan.specs.Instances.{all_positions, lane_positions}
use Rattle.snb_plan.proofs.Positioning.{lanes_next}
use Rattle.snb_plan.proofs.positions.all_positions.Goals as goal

pub loop-lane-preserved : goal.loop-lane-preserved
loop-lane-preserved c =
    let lanes = numbered_lanes c.args.lanes.now in
    let lane = c.loop-lane.lane in
    let more = lanes_next lanes lane (let lt = c.loop-lane-test.true in let e = c.read_lane-lane-end.ensures.value in omega (arith, lt, e)) in
    c.in_ok-push_lane.ensures
    ∙ ap (λ (xs : List Position). xs ++ lane_positions lane 0 c.lane_of.result.now) c.loop-lane.invariant
    ∙ ap (λ (lines : List Line). all_positions 0 (take lane lanes) ++ lane_positions lane 0 lines) c.lane_of.ensures
    ∙ sym more
