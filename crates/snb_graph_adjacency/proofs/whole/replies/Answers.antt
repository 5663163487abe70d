use Rattle.std.proofs.Common.{◌↔◌, ℕ}
use Rattle.std.specs.List.{Contains}
use Rattle.snb_schema.specs.declared.table.Kind.TheVariants as kinds
use Rattle.snb_schema.specs.declared.table.Table.TheVariants as table
use Rattle.snb_graph_adjacency.specs.declared.link.Walk.TheVariants.{Replies}
use Rattle.snb_graph_adjacency.specs.Links.{Tells}
use Rattle.snb_graph_adjacency.specs.Whole.{IsLedBy}
use Rattle.snb_graph_adjacency.proofs.WholeLemmas.{both, replies_told, pairs_by, told_single, two_added}
use Rattle.snb_graph_adjacency.proofs.whole.replies.Goals as goal

are : (c : goal.In_ok-add_messages-2) (of id date : ℕ) → Contains c.add_messages-2.new.links.items (of, (id, date)) ↔ Tells c.args.tables.now.rows Replies of id date
are c of id date = both (two_added (IsLedBy c.args.tables.now.rows table.CommentReplyOfPost kinds.Comment) (IsLedBy c.args.tables.now.rows table.CommentReplyOfComment kinds.Comment) c.new-links.result.items c.add_messages.new.links.items c.add_messages-2.new.links.items c.new-links.ensures.items c.in_ok-add_messages.ensures c.in_ok-add_messages-2.ensures of id date) (replies_told c.args.tables.now.rows of id date)

pub of-requires : goal.of-requires
of-requires c = told_single c.args.tables.now.rows c.known.ensures Replies c.add_messages-2.new.links.items (are c)

pub returns : goal.returns
returns c = pairs_by (Tells c.args.tables.now.rows Replies) c.add_messages-2.new.links.items c.of.result (λ of id date. both (two_added (IsLedBy c.args.tables.now.rows table.CommentReplyOfPost kinds.Comment) (IsLedBy c.args.tables.now.rows table.CommentReplyOfComment kinds.Comment) c.new-links.result.items c.add_messages.new.links.items c.add_messages-2.new.links.items c.new-links.ensures.items c.in_ok-add_messages.ensures c.in_ok-add_messages-2.ensures of id date) (replies_told c.args.tables.now.rows of id date)) c.of.ensures
