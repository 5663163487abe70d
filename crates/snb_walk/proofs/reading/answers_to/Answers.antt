use Rattle.snb_walk.proofs.Answering.{one_more}
use Rattle.snb_walk.proofs.reading.answers_to.Goals as goal

pub loop-read-preserved : goal.loop-read-preserved
loop-read-preserved g c =
    one_more c.args.graph.now c.args.reads.now c.loop-read.read-index c.read-item.result c.in_ok-answer.answer _ _ _ _ c.loop-read-test.true c.read-item.is
    c.in_ok-answer.ensures c.in_ok-push.ensures.ok c.in_ok-push_targets.ensures c.loop-read.invariant
