use Rattle.snb_schema.specs.declared.table.Table.TheVariants as table
use Rattle.snb_graph_adjacency.specs.declared.link.Walk.TheVariants.{Messages, PostLikes, CommentLikes}
use Rattle.snb_schema.specs.TableRows.{IsTableRow}
use Rattle.std.proofs.Common.{subst}
use Rattle.snb_schema.specs.declared.row.Row.TheVariants as row
use Rattle.snb_graph_adjacency.proofs.LinkDeltaLemmas.{comment_like_mute, friend_delta, like_delta, no_delta, one_delta, other_dated, post_like_mute}
use Rattle.snb_graph_adjacency.proofs.link_delta.dated_delta.Goals as goal

pub returns-in-PersonKnowsPerson : goal.returns-in-PersonKnowsPerson
returns-in-PersonKnowsPerson c =
    rw c.in-PersonKnowsPerson.is (friend_delta c.args.tables.now.rows c.args.from c.args.to c.args.date c.known.ensures (subst (λ t. IsTableRow (row.Dated t c.args.from c.args.to c.args.date)) c.in-PersonKnowsPerson.is c.requires).in_order)

pub returns-in-PersonLikesPost : goal.returns-in-PersonLikesPost
returns-in-PersonLikesPost c =
    rw c.in-PersonLikesPost.is (one_delta c.args.tables.now.rows _ PostLikes Messages _ (λ e. absurd cc) (like_delta PostLikes table.PersonLikesPost (λ h of id date x. x) (λ h of id date x. x) c.args.tables.now.rows c.args.from c.args.to c.args.date) (post_like_mute c.args.from c.args.to c.args.date))

pub returns-in-PersonLikesComment : goal.returns-in-PersonLikesComment
returns-in-PersonLikesComment c =
    rw c.in-PersonLikesComment.is (one_delta c.args.tables.now.rows _ CommentLikes Messages _ (λ e. absurd cc) (like_delta CommentLikes table.PersonLikesComment (λ h of id date x. x) (λ h of id date x. x) c.args.tables.now.rows c.args.from c.args.to c.args.date) (comment_like_mute c.args.from c.args.to c.args.date))

pub returns-in_default : goal.returns-in_default
returns-in_default c = no_delta c.args.tables.now.rows _ (other_dated c.args.table c.args.from c.args.to c.args.date c.in_default.not-PersonKnowsPerson c.in_default.not-PersonLikesPost c.in_default.not-PersonLikesComment)
