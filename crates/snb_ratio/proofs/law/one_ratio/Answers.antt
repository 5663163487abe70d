use Rattle.snb_ratio.proofs.RatioFacts.{one_value}
use Rattle.snb_ratio.proofs.law.one_ratio.Goals as goal

pub returns : goal.returns
returns c = λ x m n s t. one_value x m n s.2 t.2
