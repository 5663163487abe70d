use Rattle.snb_csv.proofs.RowLineFacts.{own_line}
use Rattle.snb_csv.proofs.law.own_line.Goals as goal

pub returns : goal.returns
returns c = own_line c.one_value.ensures.list c.own_line.ensures c.plain_fields.ensures
