use Rattle.snb_graph_integrity.proofs.EdgeLemmas.{IsAsking}
use Rattle.snb_graph_integrity.proofs.edges.check_edges.Given as goal

abbrev pub invariant-loop-node : goal.invariant-loop-node
invariant-loop-node l = IsAsking l.tables.rows l.node-items l.node-index
