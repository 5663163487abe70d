use Rattle.std.proofs.Common.{◌∙◌}
use Rattle.snb_workers.proofs.WorkLemmas.{at_work_still, at_work_told, holds_now, over_halted, over_started}
use Rattle.snb_workers.proofs.work.Shared.take_turn.Goals as goal
use Rattle.snb_base.proofs.Laws.{on_any_err}

pub do_claimed-requires-clause-holding : goal.do_claimed-requires-clause-holding
do_claimed-requires-clause-holding g c = (
  c.requires.at_work.0,
  c.requires.at_work.1,
  holds_now c.args.self.now.plan.now (g.C.Clock.moments c.args.self.now.clock.now) c.requires.at_work.0 c.requires.at_work.1 c.args.seat.now c.claim.new.seat c.args.replica.now c.args.replies.now c.requires.at_work.2 c.prefix_is_legal.ensures
      c.now-now.result c.in-Go.ticket c.in-Go.ensures.call c.now-now.ensures c.in-Go.ensures.held c.in-Go.ensures.acts,
)

pub returns-in_err-do_claimed-in-Go-clause-err : goal.returns-in_err-do_claimed-in-Go-clause-err
returns-in_err-do_claimed-in-Go-clause-err g c =
    on_any_err c.from_residual.result
    (λ first old work.
    c.in_err-do_claimed-in-Go.ensures.err first old
    (holds_now c.args.self.now.plan.now (g.C.Clock.moments c.args.self.now.clock.now) first old c.args.seat.now c.claim.new.seat c.args.replica.now c.args.replies.now work c.prefix_is_legal.ensures c.now-now.result c.in-Go.ticket
    c.in-Go.ensures.call c.now-now.ensures c.in-Go.ensures.held c.in-Go.ensures.acts))

pub returns-in-AllStarted-clause-ok : goal.returns-in-AllStarted-clause-ok
returns-in-AllStarted-clause-ok g c = λ first old work.
    over_started c.args.self.now.plan.now (g.C.Clock.moments c.args.self.now.clock.now) first old c.args.seat.now c.claim.new.seat c.args.replica.now c.args.replies.now work c.now-now.result c.in-AllStarted.ensures.call

pub returns-in-Halted-clause-ok : goal.returns-in-Halted-clause-ok
returns-in-Halted-clause-ok g c = λ first old work.
    over_halted c.args.self.now.plan.now (g.C.Clock.moments c.args.self.now.clock.now) first old c.args.seat.now c.claim.new.seat c.args.replica.now c.args.replies.now work c.hand_is_own.ensures c.now-now.result c.in-Halted.ensures.call

pub returns-in-NotDue-clause-ok : goal.returns-in-NotDue-clause-ok
returns-in-NotDue-clause-ok g c = λ first old work.
    at_work_still c.args.self.now.plan.now (g.C.Clock.moments c.args.self.now.clock.now) first old c.args.seat.now c.claim.new.seat c.args.replica.now c.args.replies.now work c.in-NotDue.ensures.call c.in-NotDue.ensures.call.is_so.1

pub wait_for-requires : goal.wait_for-requires
wait_for-requires g c = c.in-Blocked.ensures.call.site ∙ c.requires.board

pub returns-in-Blocked-clause-ok : goal.returns-in-Blocked-clause-ok
returns-in-Blocked-clause-ok g c = λ first old work.
    at_work_told c.args.self.now.plan.now (g.C.Clock.moments c.args.self.now.clock.now) first old c.args.seat.now c.claim.new.seat c.args.replica.now c.args.replies.now work c.in-Blocked.ensures.call c.in-Blocked.ensures.call.is_so.1 c.wait_for.new.seat
    c.wait_for.new.seat.told c.wait_for.ensures

pub returns-in-Busy-clause-ok : goal.returns-in-Busy-clause-ok
returns-in-Busy-clause-ok g c = λ first old work.
    at_work_still c.args.self.now.plan.now (g.C.Clock.moments c.args.self.now.clock.now) first old c.args.seat.now c.claim.new.seat c.args.replica.now c.args.replies.now work c.in-Busy.ensures.call c.in-Busy.ensures.call.is_so.1

pub returns-in_ok-do_claimed-in-Go-clause-ok : goal.returns-in_ok-do_claimed-in-Go-clause-ok
returns-in_ok-do_claimed-in-Go-clause-ok g c = λ first old work.
    c.in_ok-do_claimed-in-Go.ensures.ok first old
    (holds_now c.args.self.now.plan.now (g.C.Clock.moments c.args.self.now.clock.now) first old c.args.seat.now c.claim.new.seat c.args.replica.now c.args.replies.now work c.prefix_is_legal.ensures c.now-now.result c.in-Go.ticket
    c.in-Go.ensures.call c.now-now.ensures c.in-Go.ensures.held c.in-Go.ensures.acts)
