use Rattle.std.proofs.Common.{◌∙◌, subst}
use Rattle.snb_workers.specs.declared.work.Turn.{Turn}
use Rattle.snb_workers.specs.WorkTurns.{TurnsOn}
use Rattle.snb_workers.proofs.WorkLemmas.{follows_halted, has_worked, later_halted, stopped, timely_halted}
use Rattle.snb_workers.proofs.work.work_via.Goals as goal

pub loop-preserved : goal.loop-preserved
loop-preserved g c =
    subst (λ (turn : Turn). TurnsOn c.args.plan.now (g.C.Clock.moments c.args.clock.now) c.args.seat.now c.args.replica.now c.take_turn.new.seat c.take_turn.new.replica c.take_turn.new.replies turn) c.in-Ok-More.field-0-is
    (c.in-Ok-More.ensures.ok c.args.seat.now c.args.replica.now c.loop.invariant)

pub returns-in-Ok-Over : goal.returns-in-Ok-Over
returns-in-Ok-Over g c =
    let over =
    subst (λ (turn : Turn). TurnsOn c.args.plan.now (g.C.Clock.moments c.args.clock.now) c.args.seat.now c.args.replica.now c.take_turn.new.seat c.take_turn.new.replica c.take_turn.new.replies turn) c.in-Ok-Over.field-0-is
    (c.in-Ok-Over.ensures.ok c.args.seat.now c.args.replica.now c.loop.invariant) in
    record {
      later = over.0.come.later;
      follows = over.0.come.follows;
      timely = over.0.come.timely;
      ok = has_worked c.args.plan.now (g.C.Clock.moments c.args.clock.now) c.args.seat.now c.args.replica.now c.take_turn.new.seat c.take_turn.new.replica c.take_turn.new.replies over.0 over.1;
      err = tt;
    }

pub halt-requires : goal.halt-requires
halt-requires g c =
    let come = c.in-Err.ensures.err c.args.seat.now c.args.replica.now c.loop.invariant in
    record { board = come.later.site ∙ c.requires.seat; acts = come.running }

pub returns-in-Err : goal.returns-in-Err
returns-in-Err g c =
    let come = c.in-Err.ensures.err c.args.seat.now c.args.replica.now c.loop.invariant in
    record {
      later = later_halted c.args.plan.now (g.C.Clock.moments c.args.clock.now) c.args.seat.now c.args.replica.now c.take_turn.new.seat c.halt.new.seat c.take_turn.new.replica come c.halt.ensures;
      follows = follows_halted c.args.plan.now (g.C.Clock.moments c.args.clock.now) c.args.seat.now c.args.replica.now c.take_turn.new.seat c.halt.new.seat c.take_turn.new.replica come c.halt.ensures;
      timely = timely_halted c.args.plan.now (g.C.Clock.moments c.args.clock.now) c.args.seat.now c.args.replica.now c.take_turn.new.seat c.halt.new.seat c.take_turn.new.replica come c.halt.ensures;
      ok = tt;
      err = stopped c.args.plan.now (g.C.Clock.moments c.args.clock.now) c.args.seat.now c.args.replica.now c.take_turn.new.seat c.halt.new.seat c.take_turn.new.replica come c.halt.ensures;
    }
