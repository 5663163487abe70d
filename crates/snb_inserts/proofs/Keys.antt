-- The key of what an insert adds.
use Rattle.std.proofs.Common.{ℕ, min, max}
use Rattle.snb_schema.specs.declared.key.Key.{Key}
use Rattle.snb_schema.specs.declared.key.Key.TheVariants.{Node, Knows, LikesPost, LikesComment, Member}
use Rattle.snb_schema.specs.declared.table.Kind.TheVariants as kinds
use Rattle.snb_schema.specs.Nodes.{Addition, NewPerson, NewForum, NewPost, NewComment, NewPostLike, NewCommentLike, NewMember, NewFriends}

-- of its node or edge
abbrev pub key_of : Addition → Key
key_of (NewPerson person city languages emails tags study work) = Node kinds.Person person.id
key_of (NewPostLike person post date) = LikesPost person post
key_of (NewCommentLike person comment date) = LikesComment person comment
key_of (NewForum forum moderator tags) = Node kinds.Forum forum.id
key_of (NewMember person forum date) = Member forum person
key_of (NewPost post author forum country tags) = Node kinds.Post post.id
key_of (NewComment comment author country parent tags) = Node kinds.Comment comment.id
key_of (NewFriends one other date) = Knows (min one other) (max one other)
