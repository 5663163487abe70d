use Rattle.std.proofs.Common.{inl, inr, refl}
use Rattle.snb_schema.specs.declared.table.Kind.TheVariants as kinds
use Rattle.snb_schema.specs.declared.table.Table.TheVariants as table
use Rattle.snb_graph_adjacency.specs.declared.link.Walk.TheVariants.{Messages, Replies}
use Rattle.snb_graph_adjacency.specs.Links.{IsCreatorTable, IsParentTable}
use Rattle.snb_graph_adjacency.proofs.LinkDeltaLemmas.{along_messages, along_replies, creator_mute, edge_delta, no_delta, one_delta, other_link, parent_mute}
use Rattle.snb_graph_adjacency.proofs.link_delta.link_delta.Goals as goal

pub returns-in-PostHasCreatorPerson : goal.returns-in-PostHasCreatorPerson
returns-in-PostHasCreatorPerson c =
    rw c.in-PostHasCreatorPerson.is (one_delta c.args.tables.now.rows _ Messages Replies c.link_at.result (λ e. absurd cc)
    (edge_delta Messages IsCreatorTable along_messages c.args.tables.now.rows c.known.ensures table.PostHasCreatorPerson kinds.Post c.args.from c.args.to (inl refl) refl c.post_date.result c.link_at.result c.post_date.ensures.found c.post_date.ensures.none c.link_at.ensures.some c.link_at.ensures.none)
    (creator_mute table.PostHasCreatorPerson c.args.from c.args.to (inl refl)))

pub returns-in-CommentHasCreatorPerson : goal.returns-in-CommentHasCreatorPerson
returns-in-CommentHasCreatorPerson c =
    rw c.in-CommentHasCreatorPerson.is (one_delta c.args.tables.now.rows _ Messages Replies c.link_at-in-CommentHasCreatorPerson.result (λ e. absurd cc)
    (edge_delta Messages IsCreatorTable along_messages c.args.tables.now.rows c.known.ensures table.CommentHasCreatorPerson kinds.Comment c.args.from c.args.to (inr refl) refl c.comment_date.result c.link_at-in-CommentHasCreatorPerson.result c.comment_date.ensures.found c.comment_date.ensures.none c.link_at-in-CommentHasCreatorPerson.ensures.some c.link_at-in-CommentHasCreatorPerson.ensures.none)
    (creator_mute table.CommentHasCreatorPerson c.args.from c.args.to (inr refl)))

pub returns-in-CommentReplyOfPost : goal.returns-in-CommentReplyOfPost
returns-in-CommentReplyOfPost c =
    rw c.in-CommentReplyOfPost.is (one_delta c.args.tables.now.rows _ Replies Messages c.link_at-in-CommentReplyOfPost.result (λ e. absurd cc)
    (edge_delta Replies IsParentTable along_replies c.args.tables.now.rows c.known.ensures table.CommentReplyOfPost kinds.Comment c.args.from c.args.to (inl refl) refl c.comment_date-in-CommentReplyOfPost.result c.link_at-in-CommentReplyOfPost.result c.comment_date-in-CommentReplyOfPost.ensures.found c.comment_date-in-CommentReplyOfPost.ensures.none c.link_at-in-CommentReplyOfPost.ensures.some c.link_at-in-CommentReplyOfPost.ensures.none)
    (parent_mute table.CommentReplyOfPost c.args.from c.args.to (inl refl)))

pub returns-in-CommentReplyOfComment : goal.returns-in-CommentReplyOfComment
returns-in-CommentReplyOfComment c =
    rw c.in-CommentReplyOfComment.is (one_delta c.args.tables.now.rows _ Replies Messages c.link_at-in-CommentReplyOfComment.result (λ e. absurd cc)
    (edge_delta Replies IsParentTable along_replies c.args.tables.now.rows c.known.ensures table.CommentReplyOfComment kinds.Comment c.args.from c.args.to (inr refl) refl c.comment_date-in-CommentReplyOfComment.result c.link_at-in-CommentReplyOfComment.result c.comment_date-in-CommentReplyOfComment.ensures.found c.comment_date-in-CommentReplyOfComment.ensures.none c.link_at-in-CommentReplyOfComment.ensures.some c.link_at-in-CommentReplyOfComment.ensures.none)
    (parent_mute table.CommentReplyOfComment c.args.from c.args.to (inr refl)))

pub returns-in_default : goal.returns-in_default
returns-in_default c = no_delta c.args.tables.now.rows _ (other_link c.args.table c.args.from c.args.to c.in_default.not-PostHasCreatorPerson c.in_default.not-CommentHasCreatorPerson c.in_default.not-CommentReplyOfPost c.in_default.not-CommentReplyOfComment)
