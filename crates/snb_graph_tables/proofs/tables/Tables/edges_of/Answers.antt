use Rattle.std.proofs.Common.{◌∙◌, ap}
use Rattle.std.specs.Ordering.{is_gt, nat_cmp}
use Rattle.snb_graph_rows.specs.KeysApart.{table_itself, three}
use Rattle.snb_graph_tables.specs.Parts.{parts}
use Rattle.snb_graph_tables.proofs.TableLemmas.{edge_rows}
use Rattle.snb_graph_tables.proofs.Laws.{rows_is}
use Rattle.snb_graph_tables.proofs.tables.Tables.edges_of.Goals as goal

pub through-requires : goal.through-requires
through-requires c = ap (λ o. is_gt (three o (nat_cmp 0 18446744073709551615) (nat_cmp 0 18446744073709551615))) (table_itself c.args.table)

pub returns-clause-rows : goal.returns-clause-rows
returns-clause-rows c = c.through.ensures.rows ∙ edge_rows c.args.table (parts c.self.inside) c.args.self.now.rows (rows_is c.self.view_is) c.self.invariant c.requires
