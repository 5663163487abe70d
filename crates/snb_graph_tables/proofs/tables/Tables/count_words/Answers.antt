use Rattle.std.proofs.Common.{◌∙◌, ap, sym, refl, length}
use Rattle.std.specs.Map.Iter.{deref_pair}
use Rattle.std.proofs.lemmas.Iterator.Consumers.{YieldsList-from_rest, count_from_yields_List}
use Rattle.std.proofs.lemmas.List.{length-map}
use Rattle.snb_graph_rows.specs.Edges.{word_row}
use Rattle.snb_graph_rows.specs.KeysApart.{word_name}
use Rattle.snb_graph_rows.specs.Rows.{entry_row}
use Rattle.snb_graph_model.specs.Graphs.{part_of}
use Rattle.snb_graph_tables.specs.Parts.{parts}
use Rattle.snb_graph_tables.proofs.TableLemmas.{whole_table}
use Rattle.snb_graph_tables.proofs.Laws.{rows_is}
use Rattle.snb_graph_tables.proofs.tables.Tables.count_words.Goals as goal

pub returns : goal.returns
returns c =
    count_from_yields_List c.words_of.result c.count.result c.count.ensures.ran (YieldsList-from_rest {shows = deref_pair} c.words_of.result refl)
    ∙ sym (length-map c.words_of.result (λ e. entry_row word_name word_row e.0 e.1))
    ∙ ap length (c.words_of.ensures.rows ∙ whole_table c.args.table c.args.self.now.rows (parts c.self.inside) (rows_is c.self.view_is) c.self.invariant (ap part_of c.requires))
