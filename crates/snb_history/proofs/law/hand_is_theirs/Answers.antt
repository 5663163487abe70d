use Rattle.snb_history.proofs.Holding.{hand_is_theirs}
use Rattle.snb_history.proofs.law.hand_is_theirs.Goals as goal

pub returns : goal.returns
returns c = hand_is_theirs
