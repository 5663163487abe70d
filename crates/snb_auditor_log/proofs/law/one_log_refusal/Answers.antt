use Rattle.snb_auditor_log.proofs.LogFacts.{one_refusal, refused_or_not, says_one_log}
use Rattle.snb_auditor_log.proofs.law.one_log_refusal.Goals as goal

pub returns-clause-one : goal.returns-clause-one
returns-clause-one c = one_refusal c.log_is_lawful.ensures.lawful

pub returns-clause-or_not : goal.returns-clause-or_not
returns-clause-or_not c = refused_or_not

pub returns-clause-says : goal.returns-clause-says
returns-clause-says c = says_one_log c.log_is_lawful.ensures.lawful
