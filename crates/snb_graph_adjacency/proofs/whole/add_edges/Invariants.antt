use Rattle.snb_graph_adjacency.proofs.WholeLemmas.{GivesEdge, IsAdding}
use Rattle.snb_graph_adjacency.proofs.whole.add_edges.Given as goal

abbrev pub invariant-loop-key : goal.invariant-loop-key
invariant-loop-key l = IsAdding (GivesEdge l.back) l.fn.links.items l.links.items l.initial.key-iterator l.key-iterator
