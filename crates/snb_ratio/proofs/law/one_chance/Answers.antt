use Rattle.snb_ratio.proofs.ChanceFacts.{one_chance}
use Rattle.snb_ratio.proofs.law.one_chance.Goals as goal

pub returns : goal.returns
returns c = one_chance
