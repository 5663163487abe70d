use Rattle.snb_auditor_log.proofs.Clean.{said_log_is_clean}
use Rattle.snb_auditor_log.proofs.law.said_log_is_clean.Goals as goal

pub returns : goal.returns
returns c = said_log_is_clean c.log_is_exact.ensures
