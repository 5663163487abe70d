use Rattle.snb_auditor.proofs.OneVerdict.{accepted_exactly}
use Rattle.snb_auditor.proofs.law.accepted_exactly.Goals as goal

pub returns : goal.returns
returns c = accepted_exactly
