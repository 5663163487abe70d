use Rattle.snb_schema.specs.declared.table.Kind.TheVariants as kinds
use Rattle.snb_graph_adjacency.specs.declared.link.Walk.TheVariants.{Messages, Replies}
use Rattle.snb_graph_adjacency.specs.Links.{IsCreatorTable, IsParentTable}
use Rattle.snb_graph_adjacency.proofs.LinkDeltaLemmas.{along_messages, along_replies, message_mute, message_delta, two_delta}
use Rattle.snb_graph_adjacency.proofs.link_delta.comment_delta.Goals as goal

pub returns : goal.returns
returns c r is =
    two_delta c.args.tables.now.rows r Messages Replies c.link_from.result c.link_from-2.result (λ e. absurd cc)
    (message_delta Messages IsCreatorTable along_messages c.args.tables.now.rows c.known.ensures r kinds.Comment c.args.id c.args.date is c.comment_creator.result c.link_from.result c.comment_creator.ensures.found c.comment_creator.ensures.none c.link_from.ensures.some c.link_from.ensures.none)
    (message_delta Replies IsParentTable along_replies c.args.tables.now.rows c.known.ensures r kinds.Comment c.args.id c.args.date is c.parent_of.result c.link_from-2.result c.parent_of.ensures.found c.parent_of.ensures.none c.link_from-2.ensures.some c.link_from-2.ensures.none)
    (message_mute r kinds.Comment c.args.id c.args.date is)
