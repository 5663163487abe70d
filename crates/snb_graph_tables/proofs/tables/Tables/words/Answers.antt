use Rattle.std.proofs.Common.{◌∙◌, ap, map}
use Rattle.snb_schema.specs.RowKeys.{row_key}
use Rattle.snb_graph_model.specs.Graphs.{part_of}
use Rattle.snb_graph_tables.specs.Parts.{parts}
use Rattle.snb_graph_tables.proofs.TableLemmas.{one_person, word_texts}
use Rattle.snb_graph_tables.proofs.Laws.{rows_is}
use Rattle.snb_graph_tables.proofs.tables.Tables.words.Goals as goal

pub returns : goal.returns
returns c =
    c.over.ensures
    ∙ word_texts c.words_of.result
    ∙ ap (map (λ r. (row_key r).3)) (c.words_of.ensures.rows ∙ one_person c.args.table c.args.person c.after.result c.args.self.now.rows (parts c.self.inside) (rows_is c.self.view_is) c.self.invariant (ap part_of c.requires) c.after.ensures)
