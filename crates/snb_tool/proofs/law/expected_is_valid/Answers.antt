use Rattle.snb_tool.proofs.ValidLemmas.{expected_is_valid}
use Rattle.snb_tool.proofs.law.expected_is_valid.Goals as goal

pub returns : goal.returns
returns c =
    expected_is_valid c.one_command.ensures c.refusal_is_one.ensures.or_not c.one_dataset.ensures.one c.one_cases_refusal.ensures.or_not c.one_cases_refusal.ensures.tally
    c.expected_cases_are_right.ensures
