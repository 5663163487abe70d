-- Laws of sound graphs.
use Rattle.std.specs.Prelude.{◌≡◌, ◌↔◌, ◌<◌, ◌^◌, ℕ, List, [], All, Contains}
use Rattle.snb_schema.specs.declared.column.Value.{Value}
use Rattle.snb_schema.specs.declared.column.Value.TheVariants.{Digits, SmallDigits, NoId, Letters, Texts, Ids, Pairs}
use Rattle.snb_schema.specs.declared.row.Row.{Row}
use Rattle.snb_schema.specs.declared.table.Kind.TheVariants as kinds
use Rattle.snb_schema.specs.declared.table.Table.{Table}
use Rattle.snb_schema.specs.declared.table.Table.TheVariants as table
use Rattle.snb_schema.specs.References.{required}
use Rattle.snb_schema.specs.RowKeys.{node_key, slot, slot_of}
use Rattle.snb_schema.specs.RowValues.{values}
use Rattle.snb_graph_model.specs.Graphs.{HasKey, IsGraph, count}
use Rattle.snb_graph_model.specs.Messages.{HasMessage, IsRoot, RepliesTo, Wrote}
use Rattle.snb_graph_model.specs.Soundness.{EndsAfter, Sound}

-- a value whose numbers fit signed cells of 64 bits
abbrev pub FitsCell : Value → Type 0
FitsCell (Digits n) = n < 2 ^ 63
FitsCell (SmallDigits n) = n < 2 ^ 63
FitsCell NoId = Unit {0}
FitsCell (Letters text) = Unit {0}
FitsCell (Texts texts) = Unit {0}
FitsCell (Ids ids) = All (λ id. id < 2 ^ 63) ids
FitsCell (Pairs pairs) = All (λ pair. (pair.0 < 2 ^ 63) × (pair.1 < 2 ^ 63)) pairs

-- each number of a row is below 2^63
abbrev pub NumbersFit : Type 0
NumbersFit = (g : List Row) → IsGraph g → (r : Row) → Contains g r → All FitsCell (values r)

-- an id is that of a post or of a comment, never of both
abbrev pub MessagesAreOfOneKind : Type 0
MessagesAreOfOneKind =
    (g : List Row) → IsGraph g → (id : ℕ) → HasKey g (node_key kinds.Post id)
    → ¬ HasKey g (node_key kinds.Comment id)

-- one row, and no other, fills the slot of an edge whose key is this id
pub record HasOneEdge (g : List Row) (edge : Table) (id : ℕ) : Type 0 where
  pub it : Row
  pub held : Contains g it
  pub fills : slot_of it ≡ slot (edge, id, 0, [])
  pub alone : (other : Row) → Contains g other → slot_of other ≡ slot (edge, id, 0, []) → other ≡ it

-- each edge that a node must have is there, once
abbrev pub RequiredEdgesAreThere : Type 0
RequiredEdgesAreThere =
    (g : List Row) → IsGraph g → Sound g → (node edge : Table) → Contains required (node, edge)
    → (id : ℕ) → HasKey g (node, id, 0, []) → HasOneEdge g edge id

-- a person who is held wrote the message, and no other did
pub record HasOneAuthor (g : List Row) (message : ℕ) : Type 0 where
  pub author : ℕ
  pub wrote : Wrote g author message
  pub held : HasKey g (node_key kinds.Person author)
  pub alone : (other : ℕ) → Wrote g other message → other ≡ author

-- each message has one author
abbrev pub MessagesHaveOneAuthor : Type 0
MessagesHaveOneAuthor =
    (g : List Row) → IsGraph g → Sound g → (message : ℕ) → HasMessage g message
    → HasOneAuthor g message

-- a post that is held is at the message's root, and no other is
pub record HasOneRoot (g : List Row) (message : ℕ) : Type 0 where
  pub post : ℕ
  pub root : IsRoot g message post
  pub held : HasKey g (node_key kinds.Post post)
  pub alone : (other : ℕ) → IsRoot g message other → other ≡ post

-- each message has one root
abbrev pub MessagesHaveOneRoot : Type 0
MessagesHaveOneRoot =
    (g : List Row) → IsGraph g → Sound g → (message : ℕ) → HasMessage g message
    → HasOneRoot g message

-- a comment has the root of its parent
abbrev pub RootsAreOfParents : Type 0
RootsAreOfParents =
    (g : List Row) → IsGraph g → Sound g → (comment parent post : ℕ) → RepliesTo g comment parent
    → IsRoot g comment post ↔ IsRoot g parent post

-- a post replies to nothing
abbrev pub PostsHaveNoParent : Type 0
PostsHaveNoParent =
    (g : List Row) → IsGraph g → Sound g → (post message : ℕ) → HasKey g (node_key kinds.Post post)
    → ¬ RepliesTo g post message

-- a comment that replies is held, and so is the message to which it replies
abbrev pub RepliesAreHeld : Type 0
RepliesAreHeld =
    (g : List Row) → Sound g → (comment message : ℕ) → RepliesTo g comment message
    → HasKey g (node_key kinds.Comment comment) × HasMessage g message

-- a comment replies to one message
abbrev pub CommentsHaveOneParent : Type 0
CommentsHaveOneParent =
    (g : List Row) → IsGraph g → (comment one other : ℕ) → RepliesTo g comment one
    → RepliesTo g comment other → one ≡ other

-- a chain of parents is no longer than there are comments
abbrev pub ChainsAreShort : Type 0
ChainsAreShort =
    (g : List Row) → IsGraph g → Sound g → (n comment : ℕ) → EndsAfter g n comment
    → n < count g table.Comment
