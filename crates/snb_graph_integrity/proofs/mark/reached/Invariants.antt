use Rattle.snb_graph_integrity.specs.Marks.{IsMarking}
use Rattle.snb_graph_integrity.proofs.mark.reached.Given as goal

abbrev pub invariant-loop : goal.invariant-loop
invariant-loop l = IsMarking l.pairs l.fn.roots.items l.marks l.ahead.items
