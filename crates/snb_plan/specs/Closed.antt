-- Which updates a run may be given: each has a new key, and each finds the nodes that it refers to
-- in time.
use Rattle.std.specs.Prelude.{◌≡◌, ℕ, ◌<◌, ◌≤◌, ◌⊎◌, Bool, true, false, List, [], ◌∷◌, ◌++◌, Contains, All, Some}
use Rattle.snb_base.specs.FirstOf.{FirstOf}
use Rattle.snb_schema.specs.declared.file.FileId.{FileId}
use Rattle.snb_schema.specs.declared.key.Key.{Key}
use Rattle.snb_schema.specs.declared.key.Key.TheVariants.{Node}
use Rattle.snb_schema.specs.declared.op.Line.{Line}
use Rattle.snb_schema.specs.declared.refusal.Missing.{Missing}
use Rattle.snb_schema.specs.declared.refusal.Refusal.{Refusal}
use Rattle.snb_schema.specs.declared.refusal.Refusal.TheVariants.{LateDependency, Duplicate, Unmet}
use Rattle.snb_schema.specs.declared.table.Kind.{Kind}
use Rattle.snb_schema.specs.declared.table.Kind.TheVariants as kinds
use Rattle.snb_schema.specs.Awaiting.{is_awaited, waits}
use Rattle.snb_schema.specs.Inserts.{keys_of}
use Rattle.snb_schema.specs.References.{added_node, refs_of}

-- an update: the lane and the file that it stands in, and its line
pub record Update : Type 0 where
  pub lane : ℕ
  pub file : FileId
  pub line : Line

-- a node of this kind may be added by an update before in the same lane: a forum or a message.
-- Persons and forums are awaited, and the others are the dataset's alone
abbrev pub is_in_lane : Kind → Bool
is_in_lane kinds.Place = false
is_in_lane kinds.TagClass = false
is_in_lane kinds.Tag = false
is_in_lane kinds.Organisation = false
is_in_lane kinds.Person = false
is_in_lane kinds.Forum = true
is_in_lane kinds.Post = true
is_in_lane kinds.Comment = true

-- in all of these definitions `holds` tells the keys of the dataset, and the updates are in merged
-- order

-- an update that waits has a t_d that isn't below its t
abbrev pub DependsTooLate : Update → Type 0
DependsTooLate u = (waits u.line.op ≡ true) × (u.line.t ≤ u.line.t_d)

-- a key that the update takes is the dataset's, or is taken by an update before
abbrev pub IsTaken : (Key → Type 0) → List Update → Update → Type 0
IsTaken holds before u =
    (key : Key) × Contains (keys_of u.line.op) key
    × (holds key ⊎ ((v : Update) × Contains before v × Contains (keys_of v.line.op) key))

-- the node is of a kind that is awaited, and some update adds it whose t is at most this t_d
abbrev pub IsAddedInTime : List Update → ℕ → Missing → Type 0
IsAddedInTime all t_d node =
    (is_awaited node.kind ≡ true) ×
    ((v : Update) × Contains all v × (added_node v.line.op ≡ Some node) × (v.line.t ≤ t_d))

-- the node is a forum or a message, and an update before in this lane adds it
abbrev pub IsAddedInLane : List Update → ℕ → Missing → Type 0
IsAddedInLane before lane node =
    (is_in_lane node.kind ≡ true) ×
    ((v : Update) × Contains before v × (v.lane ≡ lane) × (added_node v.line.op ≡ Some node))

-- the node that an update refers to is the dataset's, or is added in time, as its kind allows
abbrev pub IsMet : (Key → Type 0) → List Update → List Update → Update → Missing → Type 0
IsMet holds all before u node =
    holds (Node node.kind node.id) ⊎ IsAddedInTime all u.line.t_d node
    ⊎ IsAddedInLane before u.lane node

-- of these references this is the first that lacks the property
pub record IsFirstUnmet (P : Missing → Type 0) (refs : List Missing) (node : Missing) : Type 0 where
  pub front : List Missing
  pub rest : List Missing
  pub splits : front ++ node ∷ rest ≡ refs
  pub before : All P front
  pub unmet : ¬ P node

-- what is wrong with an update, by a test of keys that are taken and one of nodes that are met: the
-- first of three causes
abbrev pub IsWrongBy : (Update → Type 0) → (Update → Missing → Type 0) → Update → Refusal → Type 0
IsWrongBy taken met u r =
    FirstOf
    ((λ q. DependsTooLate u × (q ≡ LateDependency u.file u.line.number))
    ∷ (λ q. taken u × (q ≡ Duplicate u.file u.line.number))
    ∷ (λ q. (node : Missing) × IsFirstUnmet (met u) (refs_of u.line.op) node
    × (q ≡ Unmet u.file u.line.number node))
    ∷ [])
    r

-- what is wrong with an update, after those before it
abbrev pub IsWrong : (Key → Type 0) → List Update → List Update → Update → Refusal → Type 0
IsWrong holds all before u r = IsWrongBy (IsTaken holds before) (IsMet holds all before) u r

-- the first update with which something is wrong is refused so
pub record IsFirstWrong (holds : Key → Type 0) (all : List Update) (r : Refusal) : Type 0 where
  pub before : List Update
  pub update : Update
  pub after : List Update
  pub splits : before ++ update ∷ after ≡ all
  pub wrong : IsWrong holds all before update r
  pub none_before : (front : List Update) (v : Update) (rest : List Update) (q : Refusal)
      → front ++ v ∷ rest ≡ before → ¬ IsWrong holds all front v q

-- an update has a new key, and finds what it refers to; where it waits, its t_d is below its t
pub record IsClosedAt (holds : Key → Type 0) (all before : List Update) (u : Update) : Type 0 where
  pub timely : waits u.line.op ≡ true → u.line.t_d < u.line.t
  pub new : ¬ IsTaken holds before u
  pub met : All (IsMet holds all before u) (refs_of u.line.op)

-- each of the updates is closed, after those before it
pub record IsClosed (holds : Key → Type 0) (all : List Update) : Type 0 where
  pub each : (before : List Update) (u : Update) (after : List Update) → before ++ u ∷ after ≡ all
      → IsClosedAt holds all before u
