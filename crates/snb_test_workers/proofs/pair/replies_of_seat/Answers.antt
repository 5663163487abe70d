use Rattle.snb_test_workers.proofs.Fresh.{follows_at_first, free_at_first}
use Rattle.snb_test_workers.proofs.pair.replies_of_seat.Goals as goal

pub work-requires-clause-free : goal.work-requires-clause-free
work-requires-clause-free g c = free_at_first c.args.seat.now c.requires.fresh

pub work-requires-clause-following : goal.work-requires-clause-following
work-requires-clause-following g c = (
  c.args.whole.now.graph,
  follows_at_first c.args.whole.now.graph c.args.whole.now.plan c.args.seat.now.seen c.in_ok-replica.replica c.known.ensures c.requires.whole.1 c.requires.fresh c.in_ok-replica.ensures,
)
