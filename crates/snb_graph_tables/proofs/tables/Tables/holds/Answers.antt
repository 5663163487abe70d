use Rattle.snb_graph_tables.specs.Entries.{entry_key}
use Rattle.snb_graph_tables.proofs.SlotLemmas.{holds_else}
use Rattle.snb_graph_tables.proofs.tables.Tables.holds.Goals as goal

pub returns-else-has_key : goal.returns-else-has_key
returns-else-has_key c = rw c.requires.keyed (holds_else c.args.self.now.rows (entry_key c.args.entry.now) c.has_key.result c.has_twin.result c.if-has_key.false c.has_key.ensures c.has_twin.ensures)
