use Rattle.snb_history.proofs.Once.{once_each}
use Rattle.snb_history.proofs.law.once_each.Goals as goal

pub returns : goal.returns
returns c = once_each
