use Rattle.std.proofs.Common.{ap, subst, sym}
use Rattle.snb_schema.specs.declared.table.Kind.TheVariants as kinds
use Rattle.snb_graph_adjacency.specs.Links.{message_of}
use Rattle.snb_graph_adjacency.specs.LinkDelta.{IsLinkDelta}
use Rattle.snb_graph_adjacency.proofs.LinkDeltaLemmas.{lone_message}
use Rattle.snb_graph_adjacency.proofs.link_delta.lone_delta.Goals as goal

pub returns-in-Post : goal.returns-in-Post
returns-in-Post c = subst (IsLinkDelta c.args.tables.now.rows c.args.row.now) (sym c.no_delta.ensures) (lone_message c.args.tables.now.rows c.args.row.now kinds.Post _ _ c.known.ensures (ap message_of c.in-Post.is) c.requires.alone)

pub returns-in-Comment : goal.returns-in-Comment
returns-in-Comment c =
    subst (IsLinkDelta c.args.tables.now.rows c.args.row.now) (sym c.no_delta-in-Comment.ensures) (lone_message c.args.tables.now.rows c.args.row.now kinds.Comment _ _ c.known.ensures (ap message_of c.in-Comment.is) c.requires.alone)
