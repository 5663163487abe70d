use Rattle.snb_read_lookups.proofs.Laws.{found_person}
use Rattle.snb_read_lookups.proofs.lookups.known.Goals as goal

pub returns : goal.returns
returns c = found_person c.args.graph.now c.known.ensures c.sound_graphs.ensures.numbers c.args.id c.in-Some.person.now c.in-Some.ensures.found
