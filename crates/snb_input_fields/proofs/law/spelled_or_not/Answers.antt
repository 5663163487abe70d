use Rattle.snb_input_fields.proofs.DecidedFacts.{each_is_spelled, each_line_is_read}
use Rattle.snb_input_fields.proofs.law.spelled_or_not.Goals as goal

pub returns : goal.returns
returns c = record { value = each_is_spelled; line = each_line_is_read }
