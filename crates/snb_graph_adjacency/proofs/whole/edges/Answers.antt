use Rattle.snb_graph_adjacency.specs.Whole.{HasEdge}
use Rattle.snb_graph_adjacency.proofs.WholeLemmas.{edges_single, one_added, pairs_by}
use Rattle.snb_graph_adjacency.proofs.whole.edges.Goals as goal

pub of-requires : goal.of-requires
of-requires c =
    edges_single c.args.tables.now.rows c.known.ensures c.args.table c.args.back c.add_edges.new.links.items c.requires
    (one_added (HasEdge c.args.tables.now.rows c.args.table c.args.back) c.new-links.result.items c.add_edges.new.links.items c.new-links.ensures.items c.in_ok-add_edges.ensures)

pub returns : goal.returns
returns c =
    pairs_by (HasEdge c.args.tables.now.rows c.args.table c.args.back) c.add_edges.new.links.items c.of.result
    (one_added (HasEdge c.args.tables.now.rows c.args.table c.args.back) c.new-links.result.items c.add_edges.new.links.items c.new-links.ensures.items c.in_ok-add_edges.ensures) c.of.ensures
