use Rattle.std.proofs.Common.{◌∙◌, ap}
use Rattle.snb_graph_model.specs.Graphs.{part_of}
use Rattle.snb_graph_tables.specs.Parts.{parts}
use Rattle.snb_graph_tables.proofs.TableLemmas.{rows_fit, whole_table}
use Rattle.snb_graph_tables.proofs.Laws.{rows_is}
use Rattle.snb_graph_tables.proofs.tables.Tables.each_word.Goals as goal

pub over-requires : goal.over-requires
over-requires c =
    rows_fit c.args.table (parts c.self.inside) c.args.self.now.rows _ (rows_is c.self.view_is) c.self.invariant
    (c.words_of.ensures.rows ∙ whole_table c.args.table c.args.self.now.rows (parts c.self.inside) (rows_is c.self.view_is) c.self.invariant (ap part_of c.requires))

pub returns : goal.returns
returns c = c.over.ensures ∙ c.words_of.ensures.rows ∙ whole_table c.args.table c.args.self.now.rows (parts c.self.inside) (rows_is c.self.view_is) c.self.invariant (ap part_of c.requires)
