use Rattle.std.proofs.Common.{subst}
use Rattle.snb_replica.specs.Replicas.{Taken}
use Rattle.snb_workers.specs.Works.{HasWorked}
use Rattle.snb_workers.proofs.CrewRuns.{follows_here}
use Rattle.snb_workers.proofs.crew.Worker.run.Goals as goal

pub work_via-requires-clause-following : goal.work_via-requires-clause-following
work_via-requires-clause-following g c = (
  c.args.base.now,
  follows_here c.args.base.now c.args.plan.now c.args.seat c.in-Ok.replica c.requires.ready.seen c.in-Ok.ensures c.known.ensures c.requires.closed,
)

pub returns : goal.returns
returns g c = record {
  later = c.in_ok-replies.ensures.later;
  follows = c.in_ok-replies.ensures.follows c.args.base.now (follows_here c.args.base.now c.args.plan.now c.args.seat c.in-Ok.replica c.requires.ready.seen c.in-Ok.ensures c.known.ensures c.requires.closed);
  timely = c.in_ok-replies.ensures.timely;
  worked = subst (λ (r : Taken). HasWorked c.args.plan.now (g.C.Clock.moments c.args.clock.now) c.args.seat c.work_via.new.seat r c.work_via.new.replica c.in_ok-replies.replies) c.in-Ok.ensures c.in_ok-replies.ensures.ok;
}
