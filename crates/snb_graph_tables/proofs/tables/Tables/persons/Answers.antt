use Rattle.std.proofs.Common.{◌∙◌, refl, arith, sym}
use Rattle.snb_schema.specs.declared.table.Table.TheVariants as tables
use Rattle.snb_graph_tables.specs.Parts.{parts}
use Rattle.snb_graph_tables.proofs.TableLemmas.{node_rows}
use Rattle.snb_graph_tables.proofs.Laws.{rows_is}
use Rattle.snb_graph_tables.proofs.tables.Tables.persons.Goals as goal

pub returns : goal.returns
returns c = c.all.ensures ∙ sym (node_rows tables.Person (parts c.self.inside) c.args.self.now.rows 4 (rows_is c.self.view_is) c.self.invariant refl (omega arith))
