use Rattle.snb_graph_integrity.proofs.EdgeLemmas.{IsNeeding}
use Rattle.snb_graph_integrity.proofs.edges.check_nodes.Given as goal

abbrev pub invariant-loop-row : goal.invariant-loop-row
invariant-loop-row l = IsNeeding l.tables.rows l.node l.row-iterator
