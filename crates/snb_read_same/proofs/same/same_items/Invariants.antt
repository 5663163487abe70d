-- the items so far are the same
use Rattle.std.proofs.Common.{take}
use Rattle.std.specs.List.{AllZip}
use Rattle.snb_read_same.proofs.same.same_items.Given as goal

abbrev pub invariant-loop-at : goal.invariant-loop-at
invariant-loop-at g l = AllZip g.T.Same.is (take l.at l.a) (take l.at l.b)
