use Rattle.snb_auditor.proofs.OneVerdict.{verdict_is_one}
use Rattle.snb_auditor.proofs.law.verdict_is_one.Goals as goal

pub returns : goal.returns
returns c = verdict_is_one
