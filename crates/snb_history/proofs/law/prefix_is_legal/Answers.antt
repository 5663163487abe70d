use Rattle.snb_history.proofs.Histories.{IsLegal-front}
use Rattle.snb_history.proofs.law.prefix_is_legal.Goals as goal

pub returns : goal.returns
returns c = IsLegal-front
