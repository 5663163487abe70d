use Rattle.snb_auditor_log.proofs.VerdictFacts.{audit_verdict_is_one}
use Rattle.snb_auditor_log.proofs.law.audit_verdict_is_one.Goals as goal

pub returns : goal.returns
returns c = audit_verdict_is_one c.verdict_is_one.ensures c.one_count.ensures
