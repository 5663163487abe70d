use Rattle.snb_schema.specs.declared.table.Kind.TheVariants as kinds
use Rattle.snb_graph_adjacency.specs.declared.link.Walk.TheVariants.{Messages, Replies}
use Rattle.snb_graph_adjacency.specs.Links.{IsCreatorTable}
use Rattle.snb_graph_adjacency.proofs.LinkDeltaLemmas.{along_messages, message_delta, one_delta, post_mute}
use Rattle.snb_graph_adjacency.proofs.link_delta.post_delta.Goals as goal

pub returns : goal.returns
returns c r is =
    one_delta c.args.tables.now.rows r Messages Replies c.link_from.result (λ e. absurd cc)
    (message_delta Messages IsCreatorTable along_messages c.args.tables.now.rows c.known.ensures r kinds.Post c.args.id c.args.date is c.post_creator.result c.link_from.result c.post_creator.ensures.found c.post_creator.ensures.none c.link_from.ensures.some c.link_from.ensures.none)
    (post_mute r c.args.id c.args.date is)
