use Rattle.snb_csv.proofs.OneFacts.{one_row}
use Rattle.snb_csv.proofs.law.one_row.Goals as goal

pub returns : goal.returns
returns c = one_row c.one_value.ensures.list
