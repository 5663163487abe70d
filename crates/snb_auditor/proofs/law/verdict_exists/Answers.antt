use Rattle.snb_auditor.proofs.SomeVerdict.{verdict_exists}
use Rattle.snb_auditor.proofs.law.verdict_exists.Goals as goal

pub returns : goal.returns
returns c = verdict_exists
