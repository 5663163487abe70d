use Rattle.snb_workers_replay.proofs.OneInsert.{legal, complete, graph, replayed, sound}
use Rattle.snb_workers_replay.proofs.worked.one_person_is_inserted.Goals as goal

pub returns-clause-graph : goal.returns-clause-graph
returns-clause-graph c = graph

pub returns-clause-sound : goal.returns-clause-sound
returns-clause-sound c = sound

pub returns-clause-replayed : goal.returns-clause-replayed
returns-clause-replayed c = replayed

pub returns-clause-legal : goal.returns-clause-legal
returns-clause-legal c = legal

pub returns-clause-complete : goal.returns-clause-complete
returns-clause-complete c = complete
