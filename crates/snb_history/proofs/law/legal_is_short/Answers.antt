use Rattle.snb_history.proofs.Short.{legal_is_short}
use Rattle.snb_history.proofs.law.legal_is_short.Goals as goal

pub returns : goal.returns
returns c = legal_is_short
