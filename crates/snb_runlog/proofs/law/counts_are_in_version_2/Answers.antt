use Rattle.snb_runlog.proofs.BackFacts.{counts_are}
use Rattle.snb_runlog.proofs.law.counts_are_in_version_2.Goals as goal

pub returns : goal.returns
returns c = counts_are
