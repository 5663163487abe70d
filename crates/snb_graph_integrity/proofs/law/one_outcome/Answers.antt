use Rattle.snb_graph_integrity.proofs.LawLemmas.{one_wrong, sound_not_wrong}
use Rattle.snb_graph_integrity.proofs.law.one_outcome.Goals as goal

pub returns-clause-sound : goal.returns-clause-sound
returns-clause-sound c = sound_not_wrong

pub returns-clause-unsound : goal.returns-clause-unsound
returns-clause-unsound c = one_wrong
