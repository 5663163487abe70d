use Rattle.std.proofs.Common.{◌≡◌, ℕ, ◌<◌, length, arith, subst}
use Rattle.snb_history.specs.Schedule.{Schedule}
use Rattle.snb_history.proofs.LanePrefix.{IsLanePrefix, IsLanePrefix-hit, IsLanePrefix-miss, IsLane-from_prefix}
use Rattle.snb_history.proofs.schedule.lane_of.Goals as goal
use Rattle.snb_history.proofs.schedule.lane_of.Goals.{then-steps-op+in_ok-push, else-steps-op}

pub loop-op-preserved : goal.loop-op-preserved
loop-op-preserved c =
    let s : Schedule = record { steps = c.args.steps.now; kinds = c.args.kinds.now } in
    let within : c.loop-op.op < length c.args.steps.now = c.loop-op-test.true in
    elim c.if-steps-op.branch [
      | then-steps-op+in_ok-push w ↦
          rw (w.numbers-is, w.in_ok-push.ensures.items)
          (IsLanePrefix-hit s c.args.lane c.loop-op.op c.loop-op.numbers.items c.loop-op.invariant within w.if-steps-op.true (c.requires.placed c.loop-op.op within))
      | else-steps-op w ↦
          rw w.numbers-is
          (IsLanePrefix-miss s c.args.lane c.loop-op.op c.loop-op.numbers.items c.loop-op.invariant within w.if-steps-op.false)
    ]

pub returns : goal.returns
returns c =
    let s : Schedule = record { steps = c.args.steps.now; kinds = c.args.kinds.now } in
    let n : c.loop-op.op ≡ length c.args.steps.now = omega arith in
    IsLane-from_prefix s c.args.lane c.loop-op.numbers.items (subst (λ (i : ℕ). IsLanePrefix s c.args.lane i c.loop-op.numbers.items) n c.loop-op.invariant)
