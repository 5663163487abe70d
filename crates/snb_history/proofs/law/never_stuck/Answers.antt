use Rattle.snb_history.proofs.Unstuck.{never_stuck}
use Rattle.snb_history.proofs.law.never_stuck.Goals as goal

pub returns : goal.returns
returns c = never_stuck
