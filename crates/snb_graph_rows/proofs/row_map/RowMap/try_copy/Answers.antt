use Rattle.snb_graph_rows.proofs.row_map.RowMap.try_copy.Goals as goal

pub try_copy-requires : goal.try_copy-requires
try_copy-requires g c = g.met.V.Exact.same_clone
