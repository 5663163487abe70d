use Rattle.std.proofs.Common.{refl, arith}
use Rattle.snb_schema.specs.declared.table.Table.TheVariants as table
use Rattle.snb_read_lookups.proofs.Laws.{edge_key_held, found_city}
use Rattle.snb_read_lookups.proofs.lookups.city.Goals as goal
use Rattle.snb_graph_model.proofs.Laws.{city_alone}

pub unreachable-requires : goal.unreachable-requires
unreachable-requires c =
    let g = c.args.graph.now in
    let one = c.sound_graphs.ensures.required g c.known.ensures c.requires.sound table.Person table.PersonIsLocatedInPlace (2, omega arith, refl) c.args.person c.requires.held in
    let e = c.in-None.ensures.held.1 (edge_key_held g c.known.ensures table.PersonIsLocatedInPlace c.args.person refl city_alone one) in
    cc

pub returns : goal.returns
returns c = found_city c.args.graph.now c.known.ensures c.sound_graphs.ensures.numbers c.args.person c.in-Some.city c.in-Some.ensures.found
