-- What one row more makes of the links.
use Rattle.std.specs.Prelude.{◌≡◌, ◌↔◌, ◌⊎◌, ◌++◌, ◌∷◌, [], ℕ, Option, Some, List, Contains, IsPermutation}
use Rattle.snb_schema.specs.declared.row.Row.{Row}
use Rattle.snb_schema.specs.declared.row.Row.TheVariants as row
use Rattle.snb_schema.specs.declared.table.Kind.{Kind}
use Rattle.snb_schema.specs.declared.table.Table.{Table}
use Rattle.snb_schema.specs.References.{from_kind}
use Rattle.snb_schema.specs.RowKeys.{slot_of}
use Rattle.snb_graph_model.specs.Graphs.{HasSlot}
use Rattle.snb_graph_adjacency.specs.declared.link.Link.{Link}
use Rattle.snb_graph_adjacency.specs.declared.link.LinkDelta.{LinkDelta}
use Rattle.snb_graph_adjacency.specs.declared.link.Walk.{Walk}
use Rattle.snb_graph_adjacency.specs.Kept.{AreApart, IsTold, SameEnds}
use Rattle.snb_graph_adjacency.specs.Links.{Tells, message_of}

-- the rows tell of the link
abbrev pub TellsLink : List Row → Link → Type 0
TellsLink g l = Tells g l.walk l.of l.id l.date

-- with this row the rows tell of the delta too; and of none of them before, where the row's slot is
-- free
pub record IsLinkDelta (g : List Row) (r : Row) (delta : LinkDelta) : Type 0 where
  pub says : (new : List Row) → IsPermutation new (g ++ r ∷ []) → (l : Link)
      → TellsLink new l ↔ (TellsLink g l ⊎ IsTold delta l)
  pub fresh : ¬ HasSlot g (slot_of r) → (k : Link) → IsTold delta k → (l : Link) → SameEnds k l
      → ¬ TellsLink g l
  pub apart : AreApart delta

-- a link along a walk
abbrev pub link : Walk → ℕ → ℕ → ℕ → Link
link walk of id date = record { walk = walk; of = of; id = id; date = date }

-- the same of one walk, along which there is one link more or none
pub record IsLinkDeltaOf (g : List Row) (r : Row) (walk : Walk) (one : Option Link) : Type 0 where
  pub own : (k : Link) → one ≡ Some k → k.walk ≡ walk
  pub says :
      (new : List Row) → IsPermutation new (g ++ r ∷ []) → (of id date : ℕ)
      → Tells new walk of id date ↔ (Tells g walk of id date ⊎ (one ≡ Some (link walk of id date)))
  pub fresh : ¬ HasSlot g (slot_of r) → (k : Link) → one ≡ Some k → (date : ℕ)
      → ¬ Tells g walk k.of k.id date

-- the message of a kind and id is held, and has this date
abbrev pub IsDated : List Row → Kind → ℕ → ℕ → Type 0
IsDated g kind id date = (n : Row) × Contains g n × (message_of n ≡ Some (kind, id, date))

-- no message of a kind and id is held
abbrev pub IsUndated : List Row → Kind → ℕ → Type 0
IsUndated g kind id = (n : Row) (date : ℕ) → message_of n ≡ Some (kind, id, date) → ¬ Contains g n

-- an edge of one of the tables leads from messages of a kind, from this one to that id
abbrev pub IsLed : (Table → Type 0) → List Row → Kind → ℕ → ℕ → Type 0
IsLed Among g kind id to =
    (t : Table) × Among t × (from_kind t ≡ Some kind) × Contains g (row.Link t id to)

-- no edge of the tables does
abbrev pub IsLedNowhere : (Table → Type 0) → List Row → Kind → ℕ → Type 0
IsLedNowhere Among g kind id =
    (t : Table) → Among t → from_kind t ≡ Some kind → (to : ℕ) → ¬ Contains g (row.Link t id to)

-- no edge leads from the message
abbrev pub IsAlone : List Row → Row → Type 0
IsAlone g r =
    (kind : Kind) (id date : ℕ) → message_of r ≡ Some (kind, id, date) → (t : Table)
    → from_kind t ≡ Some kind → (to : ℕ) → ¬ Contains g (row.Link t id to)
