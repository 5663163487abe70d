use Rattle.std.proofs.Common.{◌↔◌, IsTrue, subst}
use Rattle.snb_schema.specs.RowKeys.{slot_of}
use Rattle.snb_graph_integrity.proofs.EdgeLemmas.{end_row, filled}
use Rattle.snb_graph_model.specs.Graphs.{HasSlot}
use Rattle.snb_graph_integrity.proofs.edges.is_filled.Goals as goal

pub of-requires : goal.of-requires
of-requires c = end_row c.args.edge c.args.id c.requires.edge c.requires.small

pub returns : goal.returns
returns c =
    filled c.args.tables.now.rows c.args.edge c.args.id c.holds.result c.requires.edge
    (subst (λ r. IsTrue c.holds.result ↔ HasSlot c.args.tables.now.rows (slot_of r)) c.of.ensures.row c.holds.ensures)
