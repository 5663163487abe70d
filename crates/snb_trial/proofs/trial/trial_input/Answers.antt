use Rattle.std.proofs.Common.{sym, subst}
use Rattle.snb_graph_model.specs.Soundness.{Sound}
use Rattle.snb_trial.proofs.TenRows.{sound}
use Rattle.snb_trial.proofs.trial.trial_input.Goals as goal

pub returns-clause-sound : goal.returns-clause-sound
returns-clause-sound c = subst Sound (sym c.in_ok-graph.ensures) sound
