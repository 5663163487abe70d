use Rattle.std.proofs.Common.{refl}
use Rattle.snb_read_lookups.proofs.Laws.{found_person}
use Rattle.snb_complex_persons.proofs.scan.stands_alone.Goals as goal

pub returns : goal.returns
returns c = found_person c.args.graph.now c.known.ensures c.sound_graphs.ensures.numbers c.args.person.now.id c.args.person.now (refl, c.requires)
