use Rattle.std.proofs.Common.{◌≡◌, ℕ, ◌<◌, length, Vec}
use Rattle.std.specs.Prelude.{slice_index_or}
use Rattle.std.specs.declared.alloc.Global.{Global}
use Rattle.snb_history.specs.Schedule.{IsLane}
use Rattle.snb_history.proofs.schedule.lanes_of.Given as goal

abbrev pub invariant-loop-lane : goal.invariant-loop-lane
invariant-loop-lane l = record {
  counted : length l.lanes.items ≡ l.lane;
  each : (k : ℕ) (d : Vec ℕ Global) → k < l.lane → IsLane (record { steps = l.fn.steps; kinds = l.fn.kinds }) k (slice_index_or l.lanes.items k d).items;
}
