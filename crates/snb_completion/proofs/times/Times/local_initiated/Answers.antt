use Rattle.std.proofs.Common.{◌≡◌, ◌<◌, length, subst, sym, ◌∙◌, arith, rules, w64, FitsSigned}
use Rattle.std.specs.Prelude.{pos}
use Rattle.std.proofs.lemmas.Int.{to_z-of_z}
use Rattle.snb_schema.specs.declared.limits.TheConstants.{MAX_TIME}
use Rattle.snb_history.specs.Completion.{time_left_in}
use Rattle.snb_completion.specs.declared.times.LaneTimes.{LaneTimes}
use Rattle.snb_completion.specs.Progress.{Progress, flag}
use Rattle.snb_completion.specs.Waiting.{IsLaneOf, is_left_in}
use Rattle.snb_completion.proofs.Keeping.{time_is, time_past}
use Rattle.snb_completion.proofs.times.Times.local_initiated.Goals as goal

pub returns-then-lane-len : goal.returns-then-lane-len
returns-then-lane-len c =
    subst (λ (p : Progress). pos MAX_TIME ≡ time_left_in p.schedule (flag p.started) c.args.lane) c.self.view_is
    (time_past c.self.inside.schedule (flag c.self.inside.started.items) c.args.lane c.self.invariant.planned
    (let past = c.if-lane-len.true in let counted = c.len.ensures in let each = c.self.invariant.lanes_each in omega arith))

pub returns : goal.returns
returns c =
    let within : c.args.lane < length c.self.inside.lanes.items = (let here = c.if-lane-len.false in let counted = c.len.ensures in omega arith) in
    let lane : IsLaneOf (record { schedule = c.self.inside.schedule; started = c.self.inside.started.items; finished = c.self.inside.finished.items }) c.args.lane c.index-times.result.now =
    subst (λ (times : LaneTimes). IsLaneOf (record { schedule = c.self.inside.schedule; started = c.self.inside.started.items; finished = c.self.inside.finished.items }) c.args.lane times)
    (sym c.index-times.ensures) (c.self.invariant.lane c.args.lane c.index-times.result.now within) in
    let fits : FitsSigned w64 c.time_before.result = search rules in
    to_z-of_z w64 c.time_before.result fits
    ∙ subst (λ (p : Progress). c.time_before.result ≡ time_left_in p.schedule (flag p.started) c.args.lane) c.self.view_is
    (time_is c.self.inside.schedule (is_left_in c.self.inside.schedule (flag c.self.inside.started.items) c.args.lane) c.index-times.result.now.unstarted c.time_before.result lane.unstarted c.time_before.ensures)
