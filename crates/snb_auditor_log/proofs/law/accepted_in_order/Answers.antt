use Rattle.snb_auditor_log.proofs.VerdictFacts.{accepted_in_order}
use Rattle.snb_auditor_log.proofs.law.accepted_in_order.Goals as goal

pub returns : goal.returns
returns c = accepted_in_order c.accepted_exactly.ensures c.verdict_is_one.ensures
