use Rattle.std.proofs.Common.{arith}
use Rattle.snb_completion.proofs.Waits.{HasAmong-lane}
use Rattle.snb_completion.proofs.times.dependencies_in.Goals as goal

pub returns : goal.returns
returns c =
    HasAmong-lane c.loop-op.set c.args.schedule.now c.args.lane c.loop-op.op-index c.lane-numbers.result.now c.lane-numbers.ensures (omega arith) c.loop-op.invariant
