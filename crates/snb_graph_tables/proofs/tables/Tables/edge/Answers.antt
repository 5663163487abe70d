use Rattle.std.proofs.Common.{◌≡◌, []}
use Rattle.std.specs.Option.{is_some, option_copied}
use Rattle.snb_graph_rows.proofs.Laws.{some_copied}
use Rattle.snb_schema.specs.RowKeys.{row_key}
use Rattle.snb_graph_rows.specs.Edges.{edge_row}
use Rattle.snb_graph_tables.specs.Parts.{parts}
use Rattle.snb_graph_tables.proofs.SlotLemmas.{key_in_part, found_in_part}
use Rattle.snb_graph_tables.proofs.Laws.{rows_is}
use Rattle.snb_graph_tables.proofs.tables.Tables.edge.Goals as goal

pub returns-clause-held : goal.returns-clause-held
returns-clause-held c = rw (c.copied.ensures, ← some_copied c.find.result) (key_in_part (parts c.self.inside) 8 c.args.self.now.rows (c.args.table, c.args.first, c.args.second, []) (is_some c.find.result) (rows_is c.self.view_is) c.self.invariant c.requires c.find.ensures.held)

pub returns-clause-found : goal.returns-clause-found
returns-clause-found c = rw c.copied.ensures (found_in_part (parts c.self.inside) 8 c.args.self.now.rows (option_copied c.find.result) (λ n. edge_row (c.args.table, c.args.first, c.args.second, []) n) _ (λ n. row_key (edge_row (c.args.table, c.args.first, c.args.second, []) n) ≡ (c.args.table, c.args.first, c.args.second, [])) (rows_is c.self.view_is) c.find.ensures.found (λ n fit. fit.0))
