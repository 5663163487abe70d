use Rattle.snb_columns.proofs.CutFacts.{plain}
use Rattle.snb_columns.proofs.law.plain_fields.Goals as goal

pub returns : goal.returns
returns c = plain
