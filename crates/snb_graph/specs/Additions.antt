-- Rows that are added all together.
use Rattle.std.specs.Prelude.{◌≡◌, ◌++◌, ◌∷◌, [], List, Contains, IsPermutation, OnErr, OnOk, Result}
use Rattle.snb_schema.specs.declared.row.Row.{Row}
use Rattle.snb_schema.specs.RowKeys.{row_key, slot_of}
use Rattle.snb_graph_model.specs.Graphs.{HasGained, HasSlot, IsGraph}
use Rattle.snb_graph_rows.specs.Rows.{Stock}
use Rattle.snb_graph_adjacency.specs.declared.indexes.Indexes.{Indexes}
use Rattle.snb_graph_adjacency.specs.declared.link.LinkDelta.{LinkDelta}
use Rattle.snb_graph_adjacency.specs.Kept.{IsBacked, IsIndexed}
use Rattle.snb_graph_adjacency.specs.LinkDelta.{IsAlone, IsLinkDelta}
use Rattle.snb_graph_tables.specs.Entries.{IsName, name_key}
use Rattle.snb_graph.specs.declared.additions.Noted.{Noted}

-- the slot of one of the rows is that of a row that is held, or of a row before it
pub record HasClash (g more : List Row) : Type 0 where
  pub before : List Row
  pub one : Row
  pub after : List Row
  pub splits : before ++ one ∷ after ≡ more
  pub filled : HasSlot (g ++ before) (slot_of one)

-- no slot of the rows is
abbrev pub AreNew : List Row → List Row → Type 0
AreNew g more = ¬ HasClash g more

-- if the first of the rows is a message, no edge of the graph leads from it
abbrev pub IsFirstAlone : List Row → List Row → Type 0
IsFirstAlone g more = (r : Row) (rest : List Row) → more ≡ r ∷ rest → IsAlone g r

-- the graph has gained rows that are new
pub record HasTaken (g more now : List Row) : Type 0 where
  pub from : IsGraph g
  pub graph : IsGraph now
  pub rows : IsPermutation now (g ++ more)
  pub new : AreNew g more

-- the rows hold all of these
abbrev pub HoldsAll : List Row → List Row → Type 0
HoldsAll g frozen = (r : Row) → Contains frozen r → Contains g r

-- the links are those that the rows tell of, and the frozen ones those that the frozen rows tell of
pub record IsKept (tables : Stock) (links : Indexes) : Type 0 where
  pub indexed : IsIndexed tables.rows links
  pub backed : IsBacked tables.frozen links

-- the graph has gained a row whose slot was free, and the note has its name and what it made of the
-- links
pub record IsNoteOf (before : List Row) (r : Row) (now : List Row) (note : Noted) : Type 0 where
  pub fits : IsName note.name
  pub named : name_key note.name ≡ row_key r
  pub says : IsLinkDelta before r note.delta
  pub free : ¬ HasSlot before (slot_of r)
  pub gained : HasGained before (r ∷ []) now

-- row by row the notes lead from one graph to another
abbrev pub Lead : List Row → List Noted → List Row → Type 0
Lead g [] now = now ≡ g
Lead g (note ∷ notes) now =
    (r : Row) × (mid : List Row) × IsNoteOf g r mid note × Lead mid notes now

-- a row's name and what it made of the links are the last of the notes
pub record HasNote (r : Row) (delta : LinkDelta) (was notes : List Noted) : Type 0 where
  pub note : Noted
  pub last : notes ≡ was ++ note ∷ []
  pub fits : IsName note.name
  pub named : name_key note.name ≡ row_key r
  pub links : note.delta ≡ delta

-- the graph has gained a row, of which the last of the notes is
pub record HasNoted (before : List Row) (r : Row) (now : List Row) (was notes : List Noted)
    : Type 0 where
  pub note : Noted
  pub last : notes ≡ was ++ note ∷ []
  pub is : IsNoteOf before r now note

-- a row was added and noted, or rows and notes are as they were
pub record HasMoved {E : Type 0} (old : Stock) (r : Row) (result : Result (Unit {0}) E)
    (new : Stock) (was notes : List Noted) : Type 0 where
  pub ok : OnOk result (HasNoted old.rows r new.rows was notes)
  pub err : OnErr result (new.rows ≡ old.rows)
  pub same : OnErr result (notes ≡ was)
  pub frozen : new.frozen ≡ old.frozen
