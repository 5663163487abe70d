use Rattle.std.proofs.Common.{All}
use Rattle.snb_inserts.specs.Applying.{IsThere}
use Rattle.snb_inserts.proofs.missing.first_missing.Given as goal

-- the nodes so far are held
abbrev pub invariant-loop-node : goal.invariant-loop-node
invariant-loop-node l = All (IsThere l.graph) l.yielded
