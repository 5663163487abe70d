use Rattle.snb_schema.proofs.FrequencyFacts.{frequencies_are_one}
use Rattle.snb_schema.proofs.law.frequencies_are_one.Goals as goal

pub returns : goal.returns
returns c = frequencies_are_one
