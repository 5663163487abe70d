use Rattle.std.proofs.Common.{◌≡◌, take}
use Rattle.std.specs.List.{All}
use Rattle.snb_graph_integrity.specs.Counts.{edge_count}
use Rattle.snb_graph_integrity.proofs.counts.is_full.Given as goal
use Rattle.snb_graph_model.specs.Graphs.{count}
use Rattle.snb_graph_model.specs.Soundness.{edges_of}

-- of each edge that was looked at there are as many as nodes
abbrev pub invariant-loop-edge : goal.invariant-loop-edge
invariant-loop-edge l = record {
  are : l.edge-items ≡ edges_of l.node;
  full : All (λ edge. edge_count l.tables.rows edge ≡ count l.tables.rows l.node) (take l.edge-index l.edge-items);
}
