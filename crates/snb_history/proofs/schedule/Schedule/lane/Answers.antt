use Rattle.std.proofs.Common.{◌≡◌, ◌<◌, length, ℕ, subst, sym, ap, arith, Vec}
use Rattle.std.specs.declared.alloc.Global.{Global}
use Rattle.snb_history.specs.Schedule.{Schedule, IsLane}
use Rattle.snb_history.proofs.schedule.Schedule.lane.Goals as goal

pub returns : goal.returns
returns c =
    let kinds : length c.self.inside.kinds.items ≡ length c.args.self.now.kinds = ap (λ (s : Schedule). length s.kinds) c.self.view_is in
    let lanes : length c.self.inside.lanes.items ≡ length c.self.inside.kinds.items = c.self.invariant.counted in
    let within : c.args.lane < length c.self.inside.lanes.items = let r = c.requires in omega arith in
    let value : c.deref.result.now ≡ c.index.result.now.items = c.deref.ensures.value in
    let lane = c.self.invariant.each c.args.lane c.index.result.now within in
    subst (λ (s : Schedule). IsLane s c.args.lane c.deref.result.now) c.self.view_is
    (rw value (subst (λ (v : Vec ℕ Global). IsLane (record { steps = c.self.inside.steps.items; kinds = c.self.inside.kinds.items }) c.args.lane v.items) (sym c.index.ensures) lane))
