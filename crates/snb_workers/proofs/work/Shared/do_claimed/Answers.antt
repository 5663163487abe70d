use Rattle.std.proofs.Common.{◌∙◌, ap, sym}
use Rattle.snb_board.specs.Boards.{Site}
use Rattle.snb_workers.proofs.WorkLemmas.{at_work_again, come_followed, front_held, holding_followed}
use Rattle.snb_workers.proofs.work.Shared.do_claimed.Goals as goal
use Rattle.snb_base.proofs.Laws.{on_any_err}

pub returns-in_err-make_ready-clause-err : goal.returns-in_err-make_ready-clause-err
returns-in_err-make_ready-clause-err g c =
    on_any_err c.from_residual.result
    (λ first old h. come_followed c.args.self.now.plan.now (g.C.Clock.moments c.args.self.now.clock.now) first old c.args.seat.now c.make_ready.new.seat c.args.replica.now c.make_ready.new.replica c.make_ready.ensures.followed h.come)

pub returns-in_err-served-clause-err : goal.returns-in_err-served-clause-err
returns-in_err-served-clause-err g c =
    on_any_err c.from_residual-in_err-served.result
    (λ first old h. come_followed c.args.self.now.plan.now (g.C.Clock.moments c.args.self.now.clock.now) first old c.args.seat.now c.make_ready.new.seat c.args.replica.now c.make_ready.new.replica c.make_ready.ensures.followed h.come)

pub finish-requires-clause-held : goal.finish-requires-clause-held
finish-requires-clause-held g c =
    let h =
    holding_followed c.hand_is_own.ensures c.args.self.now.plan.now (g.C.Clock.moments c.args.self.now.clock.now) c.requires.holding.0 c.requires.holding.1 c.args.seat.now c.make_ready.new.seat c.args.replica.now c.make_ready.new.replica c.args.replies.now
    c.args.ticket c.make_ready.ensures.followed c.requires.holding.2 in
    (h.worker, h.held)

pub finish-requires-clause-front : goal.finish-requires-clause-front
finish-requires-clause-front g c =
    let h =
    holding_followed c.hand_is_own.ensures c.args.self.now.plan.now (g.C.Clock.moments c.args.self.now.clock.now) c.requires.holding.0 c.requires.holding.1 c.args.seat.now c.make_ready.new.seat c.args.replica.now c.make_ready.new.replica c.args.replies.now
    c.args.ticket c.make_ready.ensures.followed c.requires.holding.2 in
    front_held c.args.self.now.plan.now (g.C.Clock.moments c.args.self.now.clock.now) c.requires.holding.0 c.requires.holding.1 c.make_ready.new.seat c.make_ready.new.replica c.args.replies.now c.args.ticket h
    (λ query asks base f. c.in_ok-make_ready.ensures.ok query asks base (c.requires.holding.2.come.follows base f)) c.serve.new.replies c.in_ok-served.served c.in_ok-served.ensures.served c.args.self.now.board.now.schedule
    (ap (λ (z : Site). z.schedule) (sym c.requires.board) ∙ c.requires.holding.2.come.schedule) c.known.ensures

pub returns-clause-ok : goal.returns-clause-ok
returns-clause-ok g c = λ first old holding.
    at_work_again c.args.self.now.plan.now (g.C.Clock.moments c.args.self.now.clock.now) first old c.make_ready.new.seat c.make_ready.new.replica c.args.replies.now c.args.ticket
    (holding_followed c.hand_is_own.ensures c.args.self.now.plan.now (g.C.Clock.moments c.args.self.now.clock.now) first old c.args.seat.now c.make_ready.new.seat c.args.replica.now c.make_ready.new.replica c.args.replies.now c.args.ticket
    c.make_ready.ensures.followed holding)
    (λ query asks base f. c.in_ok-make_ready.ensures.ok query asks base (holding.come.follows base f)) c.serve.new.replies c.in_ok-served.served c.in_ok-served.ensures.served c.finish.new.seat c.finish.ensures c.in_ok-served.ensures.told
    c.in_ok-served.ensures.rise

pub serve-requires-clause-held : goal.serve-requires-clause-held
serve-requires-clause-held g c =
    (holding_followed c.hand_is_own.ensures c.args.self.now.plan.now (g.C.Clock.moments c.args.self.now.clock.now) c.requires.holding.0 c.requires.holding.1 c.args.seat.now c.make_ready.new.seat c.args.replica.now c.make_ready.new.replica
    c.args.replies.now c.args.ticket c.make_ready.ensures.followed c.requires.holding.2).held
