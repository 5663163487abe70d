use Rattle.snb_validation_cases.proofs.LawFacts.{line_exact}
use Rattle.snb_validation_cases.proofs.law.one_case_line.Goals as goal

pub returns-clause-exact : goal.returns-clause-exact
returns-clause-exact c = line_exact c.one_case.ensures
