use Rattle.snb_complex_persons.proofs.StayLemmas.{place_only}
use Rattle.snb_complex_persons.proofs.places.place.Goals as goal

pub returns : goal.returns
returns c = place_only c.args.graph.now c.known.ensures c.args.id c.in-Some.place.now c.in-Some.ensures.found
