use Rattle.snb_streams.proofs.LineFacts.{one_insert_of_fields}
use Rattle.snb_streams.proofs.law.one_insert_of_fields.Goals as goal

pub returns : goal.returns
returns c = one_insert_of_fields c.one_value.ensures.list
