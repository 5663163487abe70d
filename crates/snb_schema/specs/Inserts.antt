-- What each of the eight inserts adds, and what it takes.
use Rattle.std.specs.Prelude.{ℕ, min, max, option_to_list, List, [], ◌∷◌, ◌++◌, map}
use Rattle.snb_schema.specs.declared.key.Key.{Key}
use Rattle.snb_schema.specs.declared.key.Key.TheVariants.{Node, Knows, LikesPost, LikesComment, Member}
use Rattle.snb_schema.specs.declared.op.Op.{Op}
use Rattle.snb_schema.specs.declared.op.Parent.{Parent}
use Rattle.snb_schema.specs.declared.op.Parent.TheVariants as parents
use Rattle.snb_schema.specs.declared.references.Keys.{Keys}
use Rattle.snb_schema.specs.declared.row.Row.{Row}
use Rattle.snb_schema.specs.declared.row.Row.TheVariants as row
use Rattle.snb_schema.specs.declared.table.Kind.TheVariants as kinds
use Rattle.snb_schema.specs.declared.table.Table.TheVariants as table
use Rattle.snb_schema.specs.Nodes.{Addition, NewPerson, NewForum, NewPost, NewComment, NewPostLike, NewCommentLike, NewMember, NewFriends, addition}

-- the edge from a comment to its parent
abbrev pub parent_row : ℕ → Parent → Row
parent_row comment (parents.Post n) = row.Link table.CommentReplyOfPost comment n
parent_row comment (parents.Comment n) = row.Link table.CommentReplyOfComment comment n

-- the row of the node or edge that is added
abbrev pub addition_row : Addition → Row
addition_row (NewPerson person city languages emails tags study work) = row.Person person
addition_row (NewPostLike person post date) = row.Dated table.PersonLikesPost person post date
addition_row (NewCommentLike person comment date) =
    row.Dated table.PersonLikesComment person comment date
addition_row (NewForum forum moderator tags) = row.Forum forum
addition_row (NewMember person forum date) = row.Dated table.ForumHasMemberPerson forum person date
addition_row (NewPost post author forum country tags) = row.Post post
addition_row (NewComment comment author country parent tags) = row.Comment comment
addition_row (NewFriends one other date) =
    row.Dated table.PersonKnowsPerson (min one other) (max one other) date

-- a node's own edges, and a row for each element of a list
abbrev pub addition_edges : Addition → List Row
addition_edges (NewPerson person city languages emails tags study work) =
    row.Link table.PersonIsLocatedInPlace person.id city
    ∷ map (row.Word table.PersonEmailEmailAddress person.id) emails
    ++ map (row.Word table.PersonSpeaksLanguage person.id) languages
    ++ map (row.Link table.PersonHasInterestTag person.id) tags
    ++ map (λ s. row.Yeared table.PersonStudyAtOrganisation person.id s.0 s.1) study
    ++ map (λ w. row.Yeared table.PersonWorkAtOrganisation person.id w.0 w.1) work
addition_edges (NewForum forum moderator tags) =
    row.Link table.ForumHasModeratorPerson forum.id moderator
    ∷ map (row.Link table.ForumHasTagTag forum.id) tags
addition_edges (NewPost post author forum country tags) =
    row.Link table.ForumContainerOfPost forum post.id
    ∷ row.Link table.PostHasCreatorPerson post.id author
    ∷ row.Link table.PostIsLocatedInPlace post.id country
    ∷ map (row.Link table.PostHasTagTag post.id) tags
addition_edges (NewComment comment author country parent tags) =
    row.Link table.CommentHasCreatorPerson comment.id author
    ∷ row.Link table.CommentIsLocatedInPlace comment.id country
    ∷ parent_row comment.id parent
    ∷ map (row.Link table.CommentHasTagTag comment.id) tags
addition_edges _ = []

-- the rows that an insert adds
abbrev pub rows_of : Op → List Row
rows_of op = addition_row (addition op) ∷ addition_edges (addition op)

-- the keys of a message id, which posts and comments share
abbrev pub message_keys : ℕ → List Key
message_keys id = Node kinds.Post id ∷ Node kinds.Comment id ∷ []

-- the keys that it takes
abbrev pub addition_keys : Addition → List Key
addition_keys (NewPerson person city languages emails tags study work) =
    Node kinds.Person person.id ∷ []
addition_keys (NewPostLike person post date) = LikesPost person post ∷ []
addition_keys (NewCommentLike person comment date) = LikesComment person comment ∷ []
addition_keys (NewForum forum moderator tags) = Node kinds.Forum forum.id ∷ []
addition_keys (NewMember person forum date) = Member forum person ∷ []
addition_keys (NewPost post author forum country tags) = message_keys post.id
addition_keys (NewComment comment author country parent tags) = message_keys comment.id
addition_keys (NewFriends one other date) = Knows (min one other) (max one other) ∷ []

-- the keys that an insert takes: it is new where none of them is held, and of two inserts that take
-- one key the second isn't new
abbrev pub keys_of : Op → List Key
keys_of op = addition_keys (addition op)

-- the same keys, where they are kept as one and maybe another
abbrev pub listed : Keys → List Key
listed keys = keys.one ∷ option_to_list keys.other
