use Rattle.snb_schema.proofs.FrequencyFacts.{read_whole}
use Rattle.snb_schema.proofs.frequencies.Frequencies.read.Goals as goal

pub returns : goal.returns
returns c = read_whole c.args.text.now c.read_after.result c.read_after.ensures
