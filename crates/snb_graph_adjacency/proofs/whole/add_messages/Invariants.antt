use Rattle.snb_graph_adjacency.proofs.WholeLemmas.{GivesMessage, IsAdding}
use Rattle.snb_graph_adjacency.proofs.whole.add_messages.Given as goal

abbrev pub invariant-loop-key : goal.invariant-loop-key
invariant-loop-key l = IsAdding (GivesMessage l.tables.rows l.kind) l.fn.links.items l.links.items l.initial.key-iterator l.key-iterator
