use Rattle.snb_csv.proofs.OneFacts.{one_column, rows_are_right}
use Rattle.snb_csv.proofs.SomeFacts.{row_or_column}
use Rattle.snb_csv.proofs.law.one_column.Goals as goal

pub returns : goal.returns
returns c = record { some = row_or_column c.spelled_or_not.ensures.line; right = rows_are_right; one = one_column }
