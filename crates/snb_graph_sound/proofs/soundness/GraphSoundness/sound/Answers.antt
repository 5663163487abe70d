use Rattle.snb_graph_sound.proofs.soundness.GraphSoundness.sound.Goals as goal

pub returns-clause-ok : goal.returns-clause-ok
returns-clause-ok c = rw (← c.tables.ensures) c.sound.ensures.ok
