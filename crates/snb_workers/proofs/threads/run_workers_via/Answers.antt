use Rattle.std.proofs.Common.{◌∙◌, ℕ, subst}
use Rattle.std.proofs.lemmas.Result.{IfOk-weaker}
use Rattle.snb_replica.specs.Runs.{HasRun}
use Rattle.snb_workers.proofs.CrewRuns.{all_ready, crew_is}
use Rattle.snb_workers.proofs.threads.run_workers_via.Goals as goal

pub work_all-requires-clause-seats : goal.work_all-requires-clause-seats
work_all-requires-clause-seats g c = λ κs lives. all_ready c.in_ok-board.board c.in_ok-board.seats.items c.in_ok-board.ensures.seats

pub outcome_of-requires : goal.outcome_of-requires
outcome_of-requires g c = (
  g.C.Clock.moments c.args.clock.now,
  c.args.base.now,
  crew_is c.args.plan.now (g.C.Clock.moments c.args.clock.now) c.args.base.now c.in_ok-base.base c.in_ok-board.board c.args.workers c.in_ok-board.seats.items c.in_ok-crew.crew.items c.in_ok-base.ensures c.requires.some c.requires.few
      (c.in_ok-board.ensures.board.0 ∙ c.schedule.ensures) c.in_ok-board.ensures.board.1 c.known.ensures c.requires.closed c.in_ok-board.ensures.seats c.in_ok-crew.ensures,
)

pub returns : goal.returns
returns g c =
    let crew =
    crew_is c.args.plan.now (g.C.Clock.moments c.args.clock.now) c.args.base.now c.in_ok-base.base c.in_ok-board.board c.args.workers c.in_ok-board.seats.items c.in_ok-crew.crew.items c.in_ok-base.ensures c.requires.some c.requires.few
    (c.in_ok-board.ensures.board.0 ∙ c.schedule.ensures) c.in_ok-board.ensures.board.1 c.known.ensures c.requires.closed c.in_ok-board.ensures.seats c.in_ok-crew.ensures in
    record {
      ran = IfOk-weaker c.outcome_of.result _ _
          (λ o ran. subst (λ (n : ℕ). HasRun n c.args.plan.now (g.C.Clock.moments c.args.clock.now) c.args.base.now o.events o.replies o.graph) c.in_ok-board.ensures.board.1
          (ran (g.C.Clock.moments c.args.clock.now) c.args.base.now crew)) c.outcome_of.ensures;
    }
