use Rattle.snb_trial.proofs.Said.{ratio_said}
use Rattle.snb_trial.specs.Trial.{least_ratio}
use Rattle.snb_trial.proofs.terms.trial_ratio.Goals as goal

pub unreachable-requires : goal.unreachable-requires
unreachable-requires c = c.in-None.ensures least_ratio ratio_said
