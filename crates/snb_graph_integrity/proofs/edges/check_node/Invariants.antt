use Rattle.std.proofs.Common.{◌≡◌, drop, map}
use Rattle.snb_graph_integrity.specs.Edges.{missing_of, needs_at}
use Rattle.snb_graph_integrity.proofs.edges.check_node.Given as goal
use Rattle.snb_graph_model.specs.Soundness.{edges_of}

-- what the node lacks is among what is left
abbrev pub invariant-loop-edge : goal.invariant-loop-edge
invariant-loop-edge l =
    (l.edge-items ≡ edges_of l.node) × (missing_of l.tables.rows (map (λ edge. (l.node, l.id, edge)) (drop l.edge-index l.edge-items)) ≡ missing_of l.tables.rows (needs_at l.node l.id))
