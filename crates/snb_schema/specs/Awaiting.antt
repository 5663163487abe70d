-- Who waits for whom: some inserts add nodes that others wait for, and some inserts wait. An insert
-- may do both, one or neither.
use Rattle.std.specs.Prelude.{Bool, true, false, Option, Some, None}
use Rattle.snb_schema.specs.declared.op.Op.{Op}
use Rattle.snb_schema.specs.declared.op.InsertKind.{InsertKind}
use Rattle.snb_schema.specs.declared.op.InsertKind.TheVariants as inserts
use Rattle.snb_schema.specs.declared.table.Kind.{Kind}
use Rattle.snb_schema.specs.declared.table.Kind.TheVariants as kinds
use Rattle.snb_schema.specs.InsertLines.{kind_of}

-- inserts wait for nodes of this kind: for persons and forums
abbrev pub is_awaited : Kind → Bool
is_awaited kinds.Place = false
is_awaited kinds.TagClass = false
is_awaited kinds.Tag = false
is_awaited kinds.Organisation = false
is_awaited kinds.Person = true
is_awaited kinds.Forum = true
is_awaited kinds.Post = false
is_awaited kinds.Comment = false

-- the kind of the node that an insert adds, if it adds one
abbrev pub added_kind : InsertKind → Option Kind
added_kind inserts.AddPerson = Some kinds.Person
added_kind inserts.LikePost = None
added_kind inserts.LikeComment = None
added_kind inserts.AddForum = Some kinds.Forum
added_kind inserts.AddMember = None
added_kind inserts.AddPost = Some kinds.Post
added_kind inserts.AddComment = Some kinds.Comment
added_kind inserts.AddFriend = None

-- some node is added, and its kind is awaited
abbrev pub is_awaited_node : Option Kind → Bool
is_awaited_node None = false
is_awaited_node (Some kind) = is_awaited kind

-- the insert adds what others wait for, so it is a dependency
abbrev pub adds_awaited : Op → Bool
adds_awaited op = is_awaited_node (added_kind (kind_of op))

-- an insert of this kind waits for what is added up to its t_d: all but the first do
abbrev pub kind_waits : InsertKind → Bool
kind_waits inserts.AddPerson = false
kind_waits inserts.LikePost = true
kind_waits inserts.LikeComment = true
kind_waits inserts.AddForum = true
kind_waits inserts.AddMember = true
kind_waits inserts.AddPost = true
kind_waits inserts.AddComment = true
kind_waits inserts.AddFriend = true

-- the insert waits, so it is a dependent
abbrev pub waits : Op → Bool
waits op = kind_waits (kind_of op)
