use Rattle.std.proofs.Common.{ap}
use Rattle.snb_graph_adjacency.specs.Links.{message_of}
use Rattle.snb_graph_adjacency.proofs.LinkDeltaLemmas.{no_delta, other_row}
use Rattle.snb_graph_adjacency.proofs.link_delta.delta_of.Goals as goal

pub returns-in-Post : goal.returns-in-Post
returns-in-Post c = c.post_delta.ensures c.args.row.now (ap message_of c.in-Post.is)

pub returns-in-Comment : goal.returns-in-Comment
returns-in-Comment c = c.comment_delta.ensures c.args.row.now (ap message_of c.in-Comment.is)

pub returns-in_default : goal.returns-in_default
returns-in_default c = no_delta c.args.tables.now.rows c.args.row.now (other_row c.args.row.now c.in_default.not-Post c.in_default.not-Comment c.in_default.not-Link c.in_default.not-Dated c.in_default.not-Yeared)
