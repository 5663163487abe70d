use Rattle.snb_auditor_log.proofs.VerdictFacts.{whole_exactly}
use Rattle.snb_auditor_log.proofs.law.whole_exactly.Goals as goal

pub returns : goal.returns
returns c = whole_exactly c.verdict_is_one.ensures
