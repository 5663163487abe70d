use Rattle.snb_tool.proofs.CompleteLemmas.{validate_in_short}
use Rattle.snb_tool.proofs.law.validate_in_short.Goals as goal

pub returns : goal.returns
returns c = validate_in_short c.one_command.ensures c.one_cases_refusal.ensures.finding
