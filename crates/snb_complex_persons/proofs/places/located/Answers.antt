use Rattle.snb_complex_persons.proofs.StayLemmas.{organisation_only, site_held, site_key, site_only}
use Rattle.snb_complex_persons.proofs.places.located.Goals as goal

pub unreachable-requires-in_default-one : goal.unreachable-requires-in_default-one
unreachable-requires-in_default-one c =
    let e = c.in_default-one.ensures.held.1 (site_key c.args.graph.now c.known.ensures c.sound_graphs.ensures.required c.requires.sound c.args.id c.requires.held) in
    cc

pub place-requires : goal.place-requires
place-requires c = record { held = site_held c.args.graph.now c.known.ensures c.requires.sound.held c.args.id c.in-Some-one.there c.in-Some-one.ensures.found }

pub returns : goal.returns
returns c = record {
  organisation = organisation_only c.args.graph.now c.known.ensures c.args.id c.in-Some.organisation.now c.in-Some.ensures.found;
  place = c.in-Some-one.there;
  located = site_only c.args.graph.now c.known.ensures c.args.id c.in-Some-one.there c.in-Some-one.ensures.found;
  held = c.place.ensures;
}
