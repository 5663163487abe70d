use Rattle.std.proofs.Common.{refl, arith}
use Rattle.snb_schema.specs.declared.table.Table.TheVariants as table
use Rattle.snb_read_lookups.proofs.Laws.{edge_key_held, found_moderator}
use Rattle.snb_read_lookups.proofs.lookups.moderator.Goals as goal
use Rattle.snb_graph_model.proofs.Laws.{moderator_alone}

pub unreachable-requires : goal.unreachable-requires
unreachable-requires c =
    let g = c.args.graph.now in
    let one = c.sound_graphs.ensures.required g c.known.ensures c.requires.sound table.Forum table.ForumHasModeratorPerson (3, omega arith, refl) c.args.forum c.requires.held in
    let e = c.in-None.ensures.held.1 (edge_key_held g c.known.ensures table.ForumHasModeratorPerson c.args.forum refl moderator_alone one) in
    cc

pub returns : goal.returns
returns c = found_moderator c.args.graph.now c.known.ensures c.requires.sound.held c.args.forum c.in-Some.person c.in-Some.ensures.found
