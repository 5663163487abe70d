use Rattle.snb_validation_check.proofs.Telling.{cases_lawful, cases_right}
use Rattle.snb_validation_check.proofs.file.cases_are_lawful.Goals as goal

pub returns-clause-lawful : goal.returns-clause-lawful
returns-clause-lawful c = cases_lawful c.graphs_are_their_rows.ensures c.one_case_line.ensures.exact c.one_case_line.ensures.header c.one_case_line.ensures.column

pub returns-clause-right : goal.returns-clause-right
returns-clause-right c =
    cases_right c.graphs_are_their_rows.ensures
    (cases_lawful c.graphs_are_their_rows.ensures c.one_case_line.ensures.exact c.one_case_line.ensures.header c.one_case_line.ensures.column)
