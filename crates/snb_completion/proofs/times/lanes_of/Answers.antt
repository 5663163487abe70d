use Rattle.std.proofs.Common.{ℕ, [], ◌∷◌, subst, sym, arith, length-append}
use Rattle.snb_completion.specs.declared.times.LaneTimes.{LaneTimes}
use Rattle.snb_completion.specs.Progress.{nothing_started}
use Rattle.snb_completion.specs.Waiting.{IsLaneOf}
use Rattle.snb_completion.proofs.Keeping.{IsLaneOf-new, lanes_push}
use Rattle.snb_completion.proofs.times.lanes_of.Goals as goal

pub loop-lane-preserved : goal.loop-lane-preserved
loop-lane-preserved c =
    let times : LaneTimes = record { unstarted = c.in_ok-dependencies_in.field-0; unfinished = c.in_ok-dependencies_in-2.field-0 } in
    rw c.in_ok-push.ensures.items (
      (let counted = c.loop-lane.invariant.0 in omega (arith, length-append c.loop-lane.lanes.items (times ∷ []))),
      lanes_push (IsLaneOf (nothing_started c.args.schedule.now)) c.loop-lane.lanes.items times
          (subst (λ (l : ℕ). IsLaneOf (nothing_started c.args.schedule.now) l times) (sym c.loop-lane.invariant.0)
          (IsLaneOf-new c.args.schedule.now times c.loop-lane.lane c.in_ok-dependencies_in.ensures c.in_ok-dependencies_in-2.ensures))
          c.loop-lane.invariant.1,
    )
