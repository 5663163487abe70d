-- What is walked along in a graph: from one id to others, each with a date.
use Rattle.std.specs.Prelude.{◌≡◌, ℕ, ◌⊎◌, Option, Some, None, List, Contains}
use Rattle.snb_schema.specs.declared.row.Row.{Row}
use Rattle.snb_schema.specs.declared.row.Row.TheVariants as row
use Rattle.snb_schema.specs.declared.table.Kind.{Kind}
use Rattle.snb_schema.specs.declared.table.Kind.TheVariants as kinds
use Rattle.snb_schema.specs.declared.table.Table.{Table}
use Rattle.snb_schema.specs.declared.table.Table.TheVariants as table
use Rattle.snb_schema.specs.References.{from_kind}
use Rattle.snb_graph_adjacency.specs.declared.link.Walk.{Walk}
use Rattle.snb_graph_adjacency.specs.declared.link.Walk.TheVariants.{Friends, Messages, Replies, PostLikes, CommentLikes, Work, Study}

-- two persons know each other from this date on
abbrev pub IsFriendship : List Row → ℕ → ℕ → ℕ → Type 0
IsFriendship g p q date =
    Contains g (row.Dated table.PersonKnowsPerson p q date)
    ⊎ Contains g (row.Dated table.PersonKnowsPerson q p date)

-- of a post or comment its kind, id and creation date
abbrev pub message_of : Row → Option (Kind × ℕ × ℕ)
message_of (row.Post x) = Some (kinds.Post, x.id, x.creation_date)
message_of (row.Comment x) = Some (kinds.Comment, x.id, x.creation_date)
message_of _ = None

-- the tables of messages' creators
abbrev pub IsCreatorTable : Table → Type 0
IsCreatorTable t = (t ≡ table.PostHasCreatorPerson) ⊎ (t ≡ table.CommentHasCreatorPerson)

-- the tables of comments' parents
abbrev pub IsParentTable : Table → Type 0
IsParentTable t = (t ≡ table.CommentReplyOfPost) ⊎ (t ≡ table.CommentReplyOfComment)

-- an edge of one of the tables leads from a message that is held, of this id and creation date, to
-- an id
pub record LeadsTo (Among : Table → Type 0) (g : List Row) (to id date : ℕ) : Type 0 where
  pub edge : Table
  pub among : Among edge
  pub kind : Kind
  pub from : from_kind edge ≡ Some kind
  pub node : Row
  pub linked : Contains g (row.Link edge id to)
  pub held : Contains g node
  pub is : message_of node ≡ Some (kind, id, date)

-- a person created the message of this id, which has this creation date
abbrev pub IsMessage : List Row → ℕ → ℕ → ℕ → Type 0
IsMessage g person id date = LeadsTo IsCreatorTable g person id date

-- the comment of this id, which has this creation date, replies to a message
abbrev pub IsReply : List Row → ℕ → ℕ → ℕ → Type 0
IsReply g message id date = LeadsTo IsParentTable g message id date

-- a person likes a post or comment from this date on
abbrev pub LikesPost : List Row → ℕ → ℕ → ℕ → Type 0
LikesPost g post person date = Contains g (row.Dated table.PersonLikesPost person post date)

abbrev pub LikesComment : List Row → ℕ → ℕ → ℕ → Type 0
LikesComment g comment person date =
    Contains g (row.Dated table.PersonLikesComment person comment date)

-- a person works at an organisation since this year, or studied there
abbrev pub WorksAt : List Row → ℕ → ℕ → ℕ → Type 0
WorksAt g person organisation year =
    Contains g (row.Yeared table.PersonWorkAtOrganisation person organisation year)

abbrev pub StudiedAt : List Row → ℕ → ℕ → ℕ → Type 0
StudiedAt g person organisation year =
    Contains g (row.Yeared table.PersonStudyAtOrganisation person organisation year)

-- the rows tell of a link: whose it is, where it leads, and its date
abbrev pub Tells : List Row → Walk → ℕ → ℕ → ℕ → Type 0
Tells g Friends of id date = IsFriendship g of id date
Tells g Messages of id date = IsMessage g of id date
Tells g Replies of id date = IsReply g of id date
Tells g PostLikes of id date = LikesPost g of id date
Tells g CommentLikes of id date = LikesComment g of id date
Tells g Work of id date = WorksAt g of id date
Tells g Study of id date = StudiedAt g of id date
