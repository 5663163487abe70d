-- The references so far are met.
use Rattle.std.proofs.Common.{All}
use Rattle.snb_plan.specs.Added.{IsMetAt}
use Rattle.snb_plan.proofs.closed.first_unmet.Given as goal

abbrev pub invariant-loop-node : goal.invariant-loop-node
invariant-loop-node g l = All (IsMetAt (g.H.Held.holds l.held) l.added l.lane l.line.t_d) l.yielded
