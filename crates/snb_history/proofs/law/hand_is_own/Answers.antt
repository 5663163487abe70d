use Rattle.snb_history.proofs.Own.{hand_is_own}
use Rattle.snb_history.proofs.law.hand_is_own.Goals as goal

pub returns : goal.returns
returns c = hand_is_own
