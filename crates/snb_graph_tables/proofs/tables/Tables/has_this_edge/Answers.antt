use Rattle.std.proofs.Common.{◌∙◌, sym, []}
use Rattle.snb_graph_rows.specs.Edges.{edge_row}
use Rattle.snb_graph_tables.proofs.SameLemmas.{held_same, none_keyed}
use Rattle.snb_graph_tables.proofs.tables.Tables.has_this_edge.Goals as goal

pub returns-in-Some : goal.returns-in-Some
returns-in-Some c =
    let edge = edge_row (c.args.table, c.args.first, c.args.second, []) in
    held_same c.args.self.now.rows (λ r. r) (edge c.in-Some.held) (edge c.args.beside) c.same_beside.result (λ a b e. e) c.known.ensures c.in-Some.ensures.found.1
    (c.in-Some.ensures.found.0 ∙ sym c.requires.keyed) (c.same_beside.ensures c.args.first c.args.second)

pub returns-in-None : goal.returns-in-None
returns-in-None c = none_keyed c.args.self.now.rows (edge_row (c.args.table, c.args.first, c.args.second, []) c.args.beside) c.requires.keyed c.in-None.ensures.held.1
