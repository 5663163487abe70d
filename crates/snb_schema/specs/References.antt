-- What rows and inserts refer to, which node an insert adds, and which edges each node has.
use Rattle.std.specs.Prelude.{ℕ, Bool, true, false, Option, Some, None, List, [], ◌∷◌, ◌++◌, filter, map}
use Rattle.std.specs.List.{flat_map}
use Rattle.snb_schema.specs.declared.op.Op.{Op}
use Rattle.snb_schema.specs.declared.op.Parent.{Parent}
use Rattle.snb_schema.specs.declared.op.Parent.TheVariants as parents
use Rattle.snb_schema.specs.declared.refusal.Missing.{Missing}
use Rattle.snb_schema.specs.declared.row.Row.{Row}
use Rattle.snb_schema.specs.declared.row.Row.TheVariants as row
use Rattle.snb_schema.specs.declared.table.Kind.{Kind}
use Rattle.snb_schema.specs.declared.table.Kind.TheVariants as kinds
use Rattle.snb_schema.specs.declared.table.Table.{Table}
use Rattle.snb_schema.specs.Layouts.{layout}
use Rattle.snb_schema.specs.Nodes.{Addition, NewPerson, NewForum, NewPost, NewComment, NewPostLike, NewCommentLike, NewMember, NewFriends, addition}
use Rattle.snb_schema.specs.RowKeys.{kind_table}
use Rattle.snb_schema.specs.TableOrder.{all_tables, same_table}

-- the kind of node that the first id of a table's rows refers to; a node's own id refers to nothing
abbrev pub from_kind : Table → Option Kind
from_kind t = (layout t).from_kind

-- the kind of node that the second column of a table refers to; an email or a language is no node
abbrev pub to_kind : Table → Option Kind
to_kind t = (layout t).to_kind

-- a reference: the node of a kind that has this id
abbrev pub ref : Kind → ℕ → Missing
ref k n = record { kind = k; id = n }

-- the reference in a column, if the column refers
abbrev pub end_ref : ℕ → Option Kind → ℕ → List (ℕ × Missing)
end_ref column None n = []
end_ref column (Some k) n = (column, ref k n) ∷ []

-- the references of an edge by the columns of its line, which has the ends the other way round
-- where it is turned
abbrev pub edge_refs : Table → ℕ → ℕ → Bool → List (ℕ × Missing)
edge_refs t from to false = end_ref 1 (from_kind t) from ++ end_ref 2 (to_kind t) to
edge_refs t from to true = end_ref 1 (to_kind t) to ++ end_ref 2 (from_kind t) from

-- what a row refers to, each with its column in the row's line, by rising column; a node refers to
-- nothing
abbrev pub refs_of_row : Row → Bool → List (ℕ × Missing)
refs_of_row (row.Link t from to) turned = edge_refs t from to turned
refs_of_row (row.Dated t from to date) turned = edge_refs t from to turned
refs_of_row (row.Yeared t from to year) turned = edge_refs t from to turned
refs_of_row (row.Word t person text) turned = end_ref 1 (from_kind t) person
refs_of_row _ turned = []

-- the message that a comment replies to
abbrev pub parent_ref : Parent → Missing
parent_ref (parents.Post n) = ref kinds.Post n
parent_ref (parents.Comment n) = ref kinds.Comment n

-- the organisations of studies or works, each of which has a year
abbrev pub organisation_refs : List (ℕ × ℕ) → List Missing
organisation_refs stays = map (λ s. ref kinds.Organisation s.0) stays

-- what it refers to
abbrev pub addition_refs : Addition → List Missing
addition_refs (NewPerson person city languages emails tags study work) =
    ref kinds.Place city ∷ map (ref kinds.Tag) tags ++ organisation_refs study
    ++ organisation_refs work
addition_refs (NewPostLike person post date) = ref kinds.Person person ∷ ref kinds.Post post ∷ []
addition_refs (NewCommentLike person comment date) =
    ref kinds.Person person ∷ ref kinds.Comment comment ∷ []
addition_refs (NewForum forum moderator tags) =
    ref kinds.Person moderator ∷ map (ref kinds.Tag) tags
addition_refs (NewMember person forum date) = ref kinds.Person person ∷ ref kinds.Forum forum ∷ []
addition_refs (NewPost post author forum country tags) =
    ref kinds.Person author ∷ ref kinds.Forum forum ∷ ref kinds.Place country
    ∷ map (ref kinds.Tag) tags
addition_refs (NewComment comment author country parent tags) =
    ref kinds.Person author ∷ ref kinds.Place country ∷ parent_ref parent ∷ map (ref kinds.Tag) tags
addition_refs (NewFriends one other date) = ref kinds.Person one ∷ ref kinds.Person other ∷ []

-- what an insert refers to, in the order in which it is checked
abbrev pub refs_of : Op → List Missing
refs_of op = addition_refs (addition op)

-- the node that is added, if it is one
abbrev pub addition_node : Addition → Option Missing
addition_node (NewPerson person city languages emails tags study work) =
    Some (ref kinds.Person person.id)
addition_node (NewForum forum moderator tags) = Some (ref kinds.Forum forum.id)
addition_node (NewPost post author forum country tags) = Some (ref kinds.Post post.id)
addition_node (NewComment comment author country parent tags) = Some (ref kinds.Comment comment.id)
addition_node _ = None

-- the node that an insert adds, if it adds one
abbrev pub added_node : Op → Option Missing
added_node op = addition_node (addition op)

-- the table is that of the nodes of this kind, if it is a kind
abbrev pub is_table_of : Option Kind → Table → Bool
is_table_of None t = false
is_table_of (Some kind) t = same_table (kind_table kind) t

-- the edges that each node of a table has exactly once, by the table of the nodes and then that of
-- the edges: the key of each is the node's id, and a comment's parent may stand in either table of
-- replies, which share their keys
abbrev pub required : List (Table × Table)
required =
    flat_map (λ node. map (λ edge. (node, edge))
    (filter (λ edge. is_table_of (layout edge).required_of node) all_tables)) all_tables
