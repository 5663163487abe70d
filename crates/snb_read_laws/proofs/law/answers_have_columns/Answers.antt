use Rattle.snb_read_laws.proofs.EachRead.{columns_of_answer}
use Rattle.snb_read_laws.proofs.YearFacts.{answers_have_years}
use Rattle.snb_read_laws.proofs.law.answers_have_columns.Goals as goal

pub returns-clause-columns : goal.returns-clause-columns
returns-clause-columns c = columns_of_answer

pub returns-clause-years : goal.returns-clause-years
returns-clause-years c = answers_have_years
