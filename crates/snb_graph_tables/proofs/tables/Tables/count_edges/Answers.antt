use Rattle.std.proofs.Common.{◌∙◌, ap, sym, refl, length}
use Rattle.std.specs.Map.Iter.{deref_pair}
use Rattle.std.proofs.lemmas.Iterator.Consumers.{YieldsList-from_rest, count_from_yields_List}
use Rattle.std.proofs.lemmas.List.{length-map}
use Rattle.snb_graph_rows.specs.Edges.{edge_row}
use Rattle.snb_graph_rows.specs.KeysApart.{edge_name}
use Rattle.snb_graph_rows.specs.Rows.{entry_row}
use Rattle.snb_graph_tables.proofs.tables.Tables.count_edges.Goals as goal

pub returns : goal.returns
returns c =
    count_from_yields_List c.edges_of.result c.count.result c.count.ensures.ran (YieldsList-from_rest {shows = deref_pair} c.edges_of.result refl)
    ∙ sym (length-map c.edges_of.result (λ e. entry_row edge_name edge_row e.0 e.1))
    ∙ ap length c.edges_of.ensures.rows
