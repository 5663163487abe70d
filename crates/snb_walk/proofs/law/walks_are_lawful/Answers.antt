use Rattle.snb_walk.proofs.Shortness.{targets_stood, walks_are_short}
use Rattle.snb_walk.proofs.law.walks_are_lawful.Goals as goal

pub returns : goal.returns
returns c = record { stood = targets_stood; short = walks_are_short }
