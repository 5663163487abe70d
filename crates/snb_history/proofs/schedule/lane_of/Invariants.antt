use Rattle.snb_history.proofs.LanePrefix.{IsLanePrefix}
use Rattle.snb_history.proofs.schedule.lane_of.Given as goal

abbrev pub invariant-loop-op : goal.invariant-loop-op
invariant-loop-op l = IsLanePrefix (record { steps = l.fn.steps; kinds = l.fn.kinds }) l.lane l.op l.numbers.items
