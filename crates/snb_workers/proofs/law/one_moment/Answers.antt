use Rattle.snb_workers.proofs.CrewEvents.{one_moment}
use Rattle.snb_workers.proofs.law.one_moment.Goals as goal

pub returns : goal.returns
returns c = one_moment
