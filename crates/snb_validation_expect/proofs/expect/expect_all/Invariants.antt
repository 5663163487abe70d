-- The cases of the operations so far are put, and the graph has their inserts.
use Rattle.snb_validation_expect.specs.Writing.{HavePut}
use Rattle.snb_validation_expect.proofs.expect.expect_all.Given as goal

abbrev pub invariant-loop-op : goal.invariant-loop-op
invariant-loop-op g l = HavePut l.fn.graph l.plan l.op l.fn.to.items l.to.items l.graph
