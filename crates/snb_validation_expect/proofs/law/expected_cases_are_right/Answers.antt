use Rattle.snb_validation_expect.proofs.Expected.{expected_are_right}
use Rattle.snb_validation_expect.proofs.law.expected_cases_are_right.Goals as goal

pub returns : goal.returns
returns c = expected_are_right c.order_is_welcome.ensures c.one_case_line.ensures.exact
