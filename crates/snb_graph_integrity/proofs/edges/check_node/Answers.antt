use Rattle.std.proofs.Common.{sym, subst}
use Rattle.std.proofs.lemmas.List.Elements.{All-get_or}
use Rattle.std.specs.List.{All}
use Rattle.snb_graph_integrity.specs.Edges.{IsEndEdge}
use Rattle.snb_graph_integrity.proofs.EdgeLemmas.{end_edges}
use Rattle.snb_graph_integrity.proofs.edges.check_node.Goals as goal

pub is_filled-requires-clause-edge : goal.is_filled-requires-clause-edge
is_filled-requires-clause-edge c =
    All-get_or IsEndEdge c.required_of-edge-items.result.now c.loop-edge.edge-index _ c.loop-edge-test.true (subst (All IsEndEdge) (sym c.required_of-edge-items.ensures) (end_edges c.args.node))
