-- Which rows a walk goes along. Cited by contracts of private functions and by proofs.
use Rattle.std.specs.Prelude.{Bool, true, false, ◌||◌}
use Rattle.snb_schema.specs.declared.row.Row.{Row}
use Rattle.snb_schema.specs.declared.row.Row.TheVariants as row
use Rattle.snb_schema.specs.declared.table.Table.{Table}
use Rattle.snb_schema.specs.declared.table.Table.TheVariants as table
use Rattle.snb_schema.specs.TableOrder.{same_table}
use Rattle.snb_graph_adjacency.specs.declared.link.Walk.{Walk}
use Rattle.snb_graph_adjacency.specs.declared.link.Walk.TheVariants.{Friends, Messages, Replies, PostLikes, CommentLikes, Work, Study}

-- the walk goes along the posts, or the comments
abbrev pub goes_by_posts : Walk → Bool
goes_by_posts Friends = false
goes_by_posts Messages = true
goes_by_posts Replies = false
goes_by_posts PostLikes = false
goes_by_posts CommentLikes = false
goes_by_posts Work = false
goes_by_posts Study = false

abbrev pub goes_by_comments : Walk → Bool
goes_by_comments Friends = false
goes_by_comments Messages = true
goes_by_comments Replies = true
goes_by_comments PostLikes = false
goes_by_comments CommentLikes = false
goes_by_comments Work = false
goes_by_comments Study = false

-- the walk goes along the edges of a table without dates, or with dates
abbrev pub goes_by_links : Walk → Table → Bool
goes_by_links Friends t = false
goes_by_links Messages t =
    same_table t table.PostHasCreatorPerson || same_table t table.CommentHasCreatorPerson
goes_by_links Replies t =
    same_table t table.CommentReplyOfPost || same_table t table.CommentReplyOfComment
goes_by_links PostLikes t = false
goes_by_links CommentLikes t = false
goes_by_links Work t = false
goes_by_links Study t = false

abbrev pub goes_by_dated : Walk → Table → Bool
goes_by_dated Friends t = same_table t table.PersonKnowsPerson
goes_by_dated Messages t = false
goes_by_dated Replies t = false
goes_by_dated PostLikes t = same_table t table.PersonLikesPost
goes_by_dated CommentLikes t = same_table t table.PersonLikesComment
goes_by_dated Work t = false
goes_by_dated Study t = false

-- the walk goes along the edges of a table with years
abbrev pub goes_by_yeared : Walk → Table → Bool
goes_by_yeared Friends t = false
goes_by_yeared Messages t = false
goes_by_yeared Replies t = false
goes_by_yeared PostLikes t = false
goes_by_yeared CommentLikes t = false
goes_by_yeared Work t = same_table t table.PersonWorkAtOrganisation
goes_by_yeared Study t = same_table t table.PersonStudyAtOrganisation

-- the walk goes along rows like this one
abbrev pub concerns : Walk → Row → Bool
concerns w (row.Place x) = false
concerns w (row.TagClass x) = false
concerns w (row.Tag x) = false
concerns w (row.Organisation x) = false
concerns w (row.Person x) = false
concerns w (row.Forum x) = false
concerns w (row.Post x) = goes_by_posts w
concerns w (row.Comment x) = goes_by_comments w
concerns w (row.Link t from to) = goes_by_links w t
concerns w (row.Dated t from to date) = goes_by_dated w t
concerns w (row.Yeared t from to year) = goes_by_yeared w t
concerns w (row.Word t person text) = false
