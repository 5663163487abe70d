use Rattle.snb_streams.proofs.LineFacts.{one_insert}
use Rattle.snb_streams.proofs.law.one_insert.Goals as goal

pub returns : goal.returns
returns c = one_insert c.one_value.ensures.list
