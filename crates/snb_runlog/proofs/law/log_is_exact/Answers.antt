use Rattle.snb_runlog.proofs.HeaderFacts.{exact}
use Rattle.snb_runlog.proofs.law.log_is_exact.Goals as goal

pub returns : goal.returns
returns c = exact
