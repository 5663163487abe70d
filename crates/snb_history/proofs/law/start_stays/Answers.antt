use Rattle.snb_history.proofs.Times.{start_stays}
use Rattle.snb_history.proofs.law.start_stays.Goals as goal

pub returns : goal.returns
returns c = start_stays
