use Rattle.std.proofs.Common.{◌∙◌}
use Rattle.snb_graph_tables.specs.Parts.{parts}
use Rattle.snb_graph_tables.proofs.TableLemmas.{rows_fit}
use Rattle.snb_graph_tables.proofs.Laws.{rows_is}
use Rattle.snb_graph_tables.proofs.tables.Tables.each_edge.Goals as goal

pub over-requires : goal.over-requires
over-requires c = rows_fit c.args.table (parts c.self.inside) c.args.self.now.rows _ (rows_is c.self.view_is) c.self.invariant c.edges_of.ensures.rows

pub returns : goal.returns
returns c = c.over.ensures ∙ c.edges_of.ensures.rows
