use Rattle.std.proofs.Common.{refl, arith}
use Rattle.snb_schema.specs.declared.table.Table.TheVariants as table
use Rattle.snb_read_lookups.proofs.Laws.{edge_key_held, found_container}
use Rattle.snb_read_lookups.proofs.lookups.forum_id.Goals as goal
use Rattle.snb_graph_model.proofs.Laws.{container_alone}

pub unreachable-requires : goal.unreachable-requires
unreachable-requires c =
    let g = c.args.graph.now in
    let one = c.sound_graphs.ensures.required g c.known.ensures c.requires.sound table.Post table.ForumContainerOfPost (4, omega arith, refl) c.args.post c.requires.held in
    let e = c.in-None.ensures.held.1 (edge_key_held g c.known.ensures table.ForumContainerOfPost c.args.post refl container_alone one) in
    cc

pub returns-clause-inside : goal.returns-clause-inside
returns-clause-inside c = (found_container c.args.graph.now c.known.ensures c.requires.sound.held c.in-Some.forum c.args.post c.in-Some.ensures.found).0

pub returns-clause-held : goal.returns-clause-held
returns-clause-held c = (found_container c.args.graph.now c.known.ensures c.requires.sound.held c.in-Some.forum c.args.post c.in-Some.ensures.found).1
