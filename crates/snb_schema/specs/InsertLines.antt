-- The kinds of inserts, their numbers in a stream, and their fields.
use Rattle.std.specs.Prelude.{ℕ, List, [], ◌∷◌, ◌++◌}
use Rattle.snb_schema.specs.declared.column.Column.{Column}
use Rattle.snb_schema.specs.declared.column.Column.TheVariants.{Number, OptionalId, Date, TextList, IdList, PairList}
use Rattle.snb_schema.specs.declared.column.Value.{Value}
use Rattle.snb_schema.specs.declared.column.Value.TheVariants.{Digits, NoId, Texts, Ids, Pairs}
use Rattle.snb_schema.specs.declared.limits.TheConstants.{MAX_TIME}
use Rattle.snb_schema.specs.declared.op.Op.{Op}
use Rattle.snb_schema.specs.declared.op.InsertKind.{InsertKind}
use Rattle.snb_schema.specs.declared.op.InsertKind.TheVariants as kinds
use Rattle.snb_schema.specs.declared.op.Parent.{Parent}
use Rattle.snb_schema.specs.declared.op.Parent.TheVariants as parents
use Rattle.snb_schema.specs.Nodes.{Addition, NewPerson, NewForum, NewPost, NewComment, NewPostLike, NewCommentLike, NewMember, NewFriends, addition, id_column, person_columns, person_values, forum_columns, forum_values, post_columns, post_values, comment_columns, comment_values}

-- which of the eight inserts adds it
abbrev pub addition_kind : Addition → InsertKind
addition_kind (NewPerson person city languages emails tags study work) = kinds.AddPerson
addition_kind (NewPostLike person post date) = kinds.LikePost
addition_kind (NewCommentLike person comment date) = kinds.LikeComment
addition_kind (NewForum forum moderator tags) = kinds.AddForum
addition_kind (NewMember person forum date) = kinds.AddMember
addition_kind (NewPost post author forum country tags) = kinds.AddPost
addition_kind (NewComment comment author country parent tags) = kinds.AddComment
addition_kind (NewFriends one other date) = kinds.AddFriend

-- which of the eight an insert is
abbrev pub kind_of : Op → InsertKind
kind_of op = addition_kind (addition op)

-- the number by which a line names its insert
abbrev pub kind_number : InsertKind → ℕ
kind_number kinds.AddPerson = 1
kind_number kinds.LikePost = 2
kind_number kinds.LikeComment = 3
kind_number kinds.AddForum = 4
kind_number kinds.AddMember = 5
kind_number kinds.AddPost = 6
kind_number kinds.AddComment = 7
kind_number kinds.AddFriend = 8

abbrev pub op_number : Op → ℕ
op_number op = kind_number (kind_of op)

-- the columns of the node that an insert of this kind adds, where it adds one
abbrev pub node_columns : InsertKind → List Column
node_columns kinds.AddPerson = person_columns
node_columns kinds.AddForum = forum_columns
node_columns kinds.AddPost = post_columns
node_columns kinds.AddComment = comment_columns
node_columns _ = []

-- the columns that a line has beside them
abbrev pub beside_columns : InsertKind → List Column
beside_columns kinds.AddPerson =
    id_column ∷ TextList ∷ TextList ∷ IdList ∷ PairList ∷ PairList ∷ []
beside_columns kinds.AddForum = id_column ∷ IdList ∷ []
beside_columns kinds.AddPost = id_column ∷ id_column ∷ id_column ∷ IdList ∷ []
beside_columns kinds.AddComment =
    id_column ∷ id_column ∷ OptionalId ∷ OptionalId ∷ IdList ∷ []
beside_columns _ = id_column ∷ id_column ∷ Date ∷ []

-- the columns that follow the number of an insert
abbrev pub insert_columns : InsertKind → List Column
insert_columns kind = node_columns kind ++ beside_columns kind

-- the columns of a line with an insert of this kind: t, t_d, the number, and those of the insert
abbrev pub line_columns : InsertKind → List Column
line_columns kind =
    Number MAX_TIME ∷ Number MAX_TIME ∷ Number (kind_number kind) ∷ insert_columns kind

-- the post that a comment replies to, where it is one
abbrev pub parent_post : Parent → Value
parent_post (parents.Post id) = Digits id
parent_post (parents.Comment id) = NoId

-- the comment that a comment replies to, where it is one
abbrev pub parent_comment : Parent → Value
parent_comment (parents.Post id) = NoId
parent_comment (parents.Comment id) = Digits id

-- the values of the node that is added, where it is one
abbrev pub node_values : Addition → List Value
node_values (NewPerson person city languages emails tags study work) = person_values person
node_values (NewForum forum moderator tags) = forum_values forum
node_values (NewPost post author forum country tags) = post_values post
node_values (NewComment comment author country parent tags) = comment_values comment
node_values _ = []

-- the values that a line has beside them
abbrev pub beside_values : Addition → List Value
beside_values (NewPerson person city languages emails tags study work) =
    Digits city ∷ Texts languages ∷ Texts emails ∷ Ids tags ∷ Pairs study ∷ Pairs work ∷ []
beside_values (NewPostLike person post date) = Digits person ∷ Digits post ∷ Digits date ∷ []
beside_values (NewCommentLike person comment date) =
    Digits person ∷ Digits comment ∷ Digits date ∷ []
beside_values (NewForum forum moderator tags) = Digits moderator ∷ Ids tags ∷ []
beside_values (NewMember person forum date) = Digits person ∷ Digits forum ∷ Digits date ∷ []
beside_values (NewPost post author forum country tags) =
    Digits author ∷ Digits forum ∷ Digits country ∷ Ids tags ∷ []
beside_values (NewComment comment author country parent tags) =
    Digits author ∷ Digits country ∷ parent_post parent ∷ parent_comment parent ∷ Ids tags ∷ []
beside_values (NewFriends one other date) = Digits one ∷ Digits other ∷ Digits date ∷ []

-- the values of the columns that follow the number of an insert
abbrev pub op_values : Op → List Value
op_values op = node_values (addition op) ++ beside_values (addition op)

-- the values of a line's columns
abbrev pub line_values : ℕ → ℕ → Op → List Value
line_values t t_d op = Digits t ∷ Digits t_d ∷ Digits (op_number op) ∷ op_values op
