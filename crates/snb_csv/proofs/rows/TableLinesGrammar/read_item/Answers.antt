use Rattle.std.proofs.Common.{sym, ◌∙◌}
use Rattle.snb_csv.proofs.FileFacts.{bad_row}
use Rattle.snb_csv.proofs.rows.TableLinesGrammar.read_item.Goals as goal

pub returns-in-Table-clause-bad : goal.returns-in-Table-clause-bad
returns-in-Table-clause-bad c =
    bad_row c.read_row.result c.args.self.now c.in-Table.table c.args._known.now c.args._line.now c.args.fields.now (sym c.self.view_is ∙ c.in-Table.is) c.requires.split c.read_row.ensures.bad
