use Rattle.snb_graph_adjacency.proofs.WholeLemmas.{whole_indexed}
use Rattle.snb_graph_adjacency.proofs.indexes.Indexes.of.Goals as goal

pub returns : goal.returns
returns c =
    whole_indexed c.args.tables.now.rows _ c.known.ensures c.in_ok-friends.ensures c.in_ok-messages.ensures c.in_ok-replies.ensures c.in_ok-edges.ensures c.in_ok-edges-2.ensures c.in_ok-edges-3.ensures c.in_ok-edges-4.ensures
