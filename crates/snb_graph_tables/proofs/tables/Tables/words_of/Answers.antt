use Rattle.std.proofs.Common.{ap, refl}
use Rattle.snb_graph_model.specs.Graphs.{part_of}
use Rattle.snb_graph_tables.specs.Parts.{parts}
use Rattle.snb_graph_tables.specs.Words.{is_from}
use Rattle.snb_graph_tables.proofs.TableLemmas.{word_rows}
use Rattle.snb_graph_tables.proofs.Laws.{rows_is}
use Rattle.snb_graph_tables.proofs.tables.Tables.words_of.Goals as goal

pub returns-clause-rows : goal.returns-clause-rows
returns-clause-rows c =
    rw (c.before-2.ensures.rows, c.new.ensures, c.new-2.ensures) (word_rows c.args.table c.args.from c.args.end (is_from c.args.from c.args.end) (parts c.self.inside) c.args.self.now.rows (rows_is c.self.view_is) c.self.invariant (ap part_of c.requires.shape) (λ a l. refl))
