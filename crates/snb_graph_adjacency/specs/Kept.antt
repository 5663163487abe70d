-- The links that are kept beside the rows of a graph.
use Rattle.std.specs.Prelude.{◌≡◌, ◌↔◌, ◌⊎◌, ℕ, Option, Some, List, Contains}
use Rattle.snb_schema.specs.declared.row.Row.{Row}
use Rattle.snb_schema.specs.declared.table.Table.TheVariants as table
use Rattle.snb_graph_links.specs.Pairs.{HasFrozenPair, HasPair, Lists}
use Rattle.snb_graph_model.specs.Around.{friends, likes_in, messages, replies, study, work}
use Rattle.snb_graph_model.specs.Graphs.{IsGraph}
use Rattle.snb_graph_adjacency.specs.declared.indexes.Indexes.{Indexes}
use Rattle.snb_graph_adjacency.specs.declared.link.Link.{Link}
use Rattle.snb_graph_adjacency.specs.declared.link.LinkDelta.{LinkDelta}
use Rattle.snb_graph_adjacency.specs.declared.link.Walk.{Walk}
use Rattle.snb_graph_adjacency.specs.declared.link.Walk.TheVariants.{Friends, Messages, Replies, PostLikes, CommentLikes, Work, Study}

-- the pairs of a walk
abbrev pub at : Indexes → Walk → Lists × Lists
at s Friends = s.friends
at s Messages = s.messages
at s Replies = s.replies
at s PostLikes = s.post_likes
at s CommentLikes = s.comment_likes
at s Work = s.work
at s Study = s.study

-- the link is kept
abbrev pub HasLink : Indexes → Link → Type 0
HasLink s l = HasPair (at s l.walk) l.of l.id l.date

-- and frozen
abbrev pub HasFrozenLink : Indexes → Link → Type 0
HasFrozenLink s l = HasFrozenPair (at s l.walk) l.of l.id l.date

-- the frozen links are the same lists
abbrev pub SameFrozen : Indexes → Indexes → Type 0
SameFrozen old new = (w : Walk) → (at new w).0 ≡ (at old w).0

-- two links lead from one id to another along one walk
abbrev pub SameEnds : Link → Link → Type 0
SameEnds k l = (k.walk ≡ l.walk) × (k.of ≡ l.of) × (k.id ≡ l.id)

-- no link with these ends is kept
abbrev pub IsNewLink : Indexes → Link → Type 0
IsNewLink s k = (l : Link) → SameEnds k l → ¬ HasLink s l

-- no link with these ends is frozen
abbrev pub IsOwnLink : Indexes → Link → Type 0
IsOwnLink s k = (l : Link) → SameEnds k l → ¬ HasFrozenLink s l

-- one link more
abbrev pub HasGainedLink : Indexes → Link → Indexes → Type 0
HasGainedLink old k new = (l : Link) → HasLink new l ↔ (HasLink old l ⊎ (k ≡ l))

-- all links but one
abbrev pub HasLostLink : Indexes → Link → Indexes → Type 0
HasLostLink old k new = (l : Link) → HasLink new l ↔ (HasLink old l × ¬ SameEnds k l)

-- one link more, if there is one
abbrev pub HasGainedSome : Indexes → Option Link → Indexes → Type 0
HasGainedSome old link new = (l : Link) → HasLink new l ↔ (HasLink old l ⊎ (link ≡ Some l))

-- all links but those with the ends of this one, if there is one
abbrev pub HasLostSome : Indexes → Option Link → Indexes → Type 0
HasLostSome old link new =
    (l : Link) → HasLink new l ↔ (HasLink old l × ((k : Link) → link ≡ Some k → ¬ SameEnds k l))

-- the links are the same
abbrev pub SameLinks : Indexes → Indexes → Type 0
SameLinks old new = (l : Link) → HasLink new l ↔ HasLink old l

-- the link is one of the delta
abbrev pub IsTold : LinkDelta → Link → Type 0
IsTold delta l = (delta.first ≡ Some l) ⊎ (delta.second ≡ Some l)

-- two delta don't have the same ends
abbrev pub AreApart : LinkDelta → Type 0
AreApart delta = (k l : Link) → delta.first ≡ Some k → delta.second ≡ Some l → ¬ SameEnds k l

-- the delta are kept nowhere yet
pub record IsFresh (s : Indexes) (delta : LinkDelta) : Type 0 where
  pub new : (k : Link) → IsTold delta k → IsNewLink s k
  pub apart : AreApart delta

-- no link with the ends of one of the delta is frozen
abbrev pub AreOwn : Indexes → LinkDelta → Type 0
AreOwn s delta = (k : Link) → IsTold delta k → IsOwnLink s k

-- the links with the delta
abbrev pub HasLinkDelta : Indexes → LinkDelta → Indexes → Type 0
HasLinkDelta old delta new = (l : Link) → HasLink new l ↔ (HasLink old l ⊎ IsTold delta l)

-- all links but those with the ends of the delta
abbrev pub HasLostLinkDelta : Indexes → LinkDelta → Indexes → Type 0
HasLostLinkDelta old delta new =
    (l : Link) → HasLink new l ↔ (HasLink old l × ((k : Link) → IsTold delta k → ¬ SameEnds k l))

-- what a walk from an id gives: a filter over the rows
abbrev pub along : List Row → Walk → ℕ → List (ℕ × ℕ)
along g Friends of = friends g of
along g Messages of = messages g of
along g Replies of = replies g of
along g PostLikes of = likes_in g table.PersonLikesPost of
along g CommentLikes of = likes_in g table.PersonLikesComment of
along g Work of = work g of
along g Study of = study g of

-- the link is one of those that its walk gives
abbrev pub IsAlong : List Row → Link → Type 0
IsAlong g l = Contains (along g l.walk l.of) (l.id, l.date)

-- the links are those that the walks over the rows of a graph give
pub record IsIndexed (g : List Row) (s : Indexes) : Type 0 where
  pub graph : IsGraph g
  pub same : (l : Link) → HasLink s l ↔ IsAlong g l

-- the frozen links are among those of the frozen rows
abbrev pub IsBacked : List Row → Indexes → Type 0
IsBacked frozen s = (l : Link) → HasFrozenLink s l → IsAlong frozen l
