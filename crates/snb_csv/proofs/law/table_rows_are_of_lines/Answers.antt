use Rattle.snb_csv.proofs.RowLineFacts.{of_lines}
use Rattle.snb_csv.proofs.law.table_rows_are_of_lines.Goals as goal

pub returns : goal.returns
returns c = of_lines c.own_line.ensures c.plain_fields.ensures
