use Rattle.snb_graph_rows.specs.KeysApart.{word_name}
use Rattle.snb_graph_tables.specs.Parts.{parts}
use Rattle.snb_graph_tables.proofs.SlotLemmas.{key_in_part}
use Rattle.snb_graph_tables.proofs.Laws.{rows_is}
use Rattle.snb_graph_tables.proofs.tables.Tables.has_word.Goals as goal

pub returns : goal.returns
returns c = key_in_part (parts c.self.inside) 9 c.args.self.now.rows (word_name c.args.key.now) c.has.result (rows_is c.self.view_is) c.self.invariant c.requires c.has.ensures
