use Rattle.snb_csv.proofs.RowLineFacts.{of_fields}
use Rattle.snb_csv.proofs.law.rows_of_fields_fit.Goals as goal

pub returns : goal.returns
returns c = of_fields
