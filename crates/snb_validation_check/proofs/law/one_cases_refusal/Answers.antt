use Rattle.snb_validation_check.proofs.CasesFacts.{one_found}
use Rattle.snb_validation_check.proofs.LawFacts.{refuse_once, refused_or_not, tally_one}
use Rattle.snb_validation_check.proofs.law.one_cases_refusal.Goals as goal

pub returns-clause-one : goal.returns-clause-one
returns-clause-one c = refuse_once c.cases_are_lawful.ensures.lawful

pub returns-clause-or_not : goal.returns-clause-or_not
returns-clause-or_not c = refused_or_not

pub returns-clause-finding : goal.returns-clause-finding
returns-clause-finding c = one_found c.graphs_are_their_rows.ensures c.one_reply.ensures.reply

pub returns-clause-tally : goal.returns-clause-tally
returns-clause-tally c = tally_one c.cases_are_lawful.ensures.lawful (one_found c.graphs_are_their_rows.ensures c.one_reply.ensures.reply)
