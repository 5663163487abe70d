use Rattle.std.proofs.Common.{◌∙◌, ◌++◌, ◌∷◌, []}
use Rattle.std.proofs.lemmas.Result.{IfOk-weaker}
use Rattle.snb_workers.proofs.CrewRuns.{alone_ready, crew_of_one, run_of_more}
use Rattle.snb_workers.proofs.run.run_alone_via.Goals as goal

pub run-requires-clause-ready : goal.run-requires-clause-ready
run-requires-clause-ready g c = alone_ready c.in_ok-board.board c.in_ok-board.seats.items c.pop.new.self.items c.in-Some.seat c.in_ok-board.ensures.seats c.in_ok-board.ensures.board.1 c.in-Some.ensures.items

pub outcome_of-requires : goal.outcome_of-requires
outcome_of-requires g c = (
  g.C.Clock.moments c.args.clock.now,
  c.args.base.now,
  crew_of_one c.in_ok-board.board c.in_ok-board.seats.items c.pop.new.self.items c.in-Some.seat c.in_ok-board.ensures.seats c.in_ok-board.ensures.board.1 c.in-Some.ensures.items c.args.plan.now (g.C.Clock.moments c.args.clock.now)
      c.args.base.now c.run.result c.push.new.self.items (c.in_ok-board.ensures.board.0 ∙ c.schedule.ensures) c.known.ensures c.requires.closed c.run.ensures
      (c.in_ok-push.ensures.items ∙ (λ i. c.in_ok-crew.ensures.items i ++ c.run.result ∷ [])),
)

pub returns : goal.returns
returns g c =
    let crew =
    crew_of_one c.in_ok-board.board c.in_ok-board.seats.items c.pop.new.self.items c.in-Some.seat c.in_ok-board.ensures.seats c.in_ok-board.ensures.board.1 c.in-Some.ensures.items c.args.plan.now (g.C.Clock.moments c.args.clock.now)
    c.args.base.now c.run.result c.push.new.self.items (c.in_ok-board.ensures.board.0 ∙ c.schedule.ensures) c.known.ensures c.requires.closed c.run.ensures
    (c.in_ok-push.ensures.items ∙ (λ i. c.in_ok-crew.ensures.items i ++ c.run.result ∷ [])) in
    record {
      ran = IfOk-weaker c.outcome_of.result _ _
          (λ o ran workers some. run_of_more c.args.plan.now (g.C.Clock.moments c.args.clock.now) c.args.base.now o.events o.replies o.graph c.in_ok-board.board.workers workers c.in_ok-board.ensures.board.1 some
          (ran (g.C.Clock.moments c.args.clock.now) c.args.base.now crew)) c.outcome_of.ensures;
    }
