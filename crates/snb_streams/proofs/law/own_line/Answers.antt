use Rattle.snb_streams.proofs.LineFacts.{own_line}
use Rattle.snb_streams.proofs.law.own_line.Goals as goal

pub returns : goal.returns
returns c = own_line c.plain_fields.ensures c.own_line.ensures
