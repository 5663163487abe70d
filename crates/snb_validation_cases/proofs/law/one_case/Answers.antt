use Rattle.snb_validation_cases.proofs.LawFacts.{case_one}
use Rattle.snb_validation_cases.proofs.law.one_case.Goals as goal

pub returns : goal.returns
returns c = case_one c.one_insert.ensures
