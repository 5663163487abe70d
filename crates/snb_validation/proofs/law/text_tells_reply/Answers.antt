use Rattle.snb_validation.proofs.TextFacts.{data_one, text_one, text_read}
use Rattle.snb_validation.proofs.law.text_tells_reply.Goals as goal

pub returns-clause-back : goal.returns-clause-back
returns-clause-back c = text_read

pub returns-clause-array : goal.returns-clause-array
returns-clause-array c = data_one

pub returns-clause-text : goal.returns-clause-text
returns-clause-text c = text_one
