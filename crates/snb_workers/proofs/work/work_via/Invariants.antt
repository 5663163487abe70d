-- The worker has come from where it began, has nothing in hand, and has answered the reads that it has finished.
use Rattle.snb_workers.specs.WorkTurns.{IsAtWork}
use Rattle.snb_workers.proofs.work.work_via.Given as goal

abbrev pub invariant-loop : goal.invariant-loop
invariant-loop g l = IsAtWork l.plan (g.C.Clock.moments l.clock) l.fn.seat l.fn.replica l.seat l.replica l.replies
