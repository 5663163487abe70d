use Rattle.snb_history.proofs.Deciding.{breaks_one}
use Rattle.snb_history.proofs.law.breaks_one.Goals as goal

pub returns : goal.returns
returns c = breaks_one
