-- What the files of tables say, and what is wrong with a row beside those before it.
use Rattle.std.specs.Prelude.{◌≡◌, ◌⊎◌, ◌↔◌, ◌++◌, ◌∷◌, ℕ, Bool, true, false, List, [], map, All, Contains, Option, Some, None}
use Rattle.std.specs.List.{flat_map}
use Rattle.snb_base.specs.FirstOf.{FirstOf}
use Rattle.snb_schema.specs.declared.file.FileId.{FileId}
use Rattle.snb_schema.specs.declared.limits.TheConstants.{MAX_ROWS}
use Rattle.snb_schema.specs.declared.refusal.Missing.{Missing}
use Rattle.snb_schema.specs.declared.refusal.Refusal.{Refusal}
use Rattle.snb_schema.specs.declared.refusal.Refusal.TheVariants.{Dangling, Duplicate}
use Rattle.snb_schema.specs.declared.row.Placed.{Placed}
use Rattle.snb_schema.specs.declared.row.Row.{Row}
use Rattle.snb_schema.specs.declared.row.Row.TheVariants as row
use Rattle.snb_schema.specs.References.{refs_of_row}
use Rattle.snb_schema.specs.RowKeys.{node_key, slot_of}
use Rattle.snb_schema.specs.TableRows.{IsTableRow}
use Rattle.snb_input_lines.specs.Sinks.{SinkMeaning}
use Rattle.snb_csv.specs.Rows.{table_language}
use Rattle.snb_input_files.specs.Format.{Format, IsFileSink, Rules}
use Rattle.snb_graph_model.specs.Graphs.{HasGained, HasKey, HasSlot, IsGraph}
use Rattle.snb_graph_model.specs.Soundness.{HoldsRefs}

-- the rows of all lines of the files before, and of those of this file so far; a line may repeat
-- one before it
abbrev pub said_rows : List (List Placed) → List Placed → List Row
said_rows done mine = flat_map (λ file. map (λ p. p.row) file) done ++ map (λ p. p.row) mine

-- the node that a column of a line refers to is among the rows
abbrev pub IsAmongRows : List Row → ℕ × Missing → Type 0
IsAmongRows rows ref = HasKey rows (node_key ref.1.kind ref.1.id)

-- of these references, each with its column, this column's is the first whose node isn't among the
-- rows
pub record IsFirstLacking (rows : List Row) (refs : List (ℕ × Missing)) (column : ℕ) : Type 0 where
  pub before : List (ℕ × Missing)
  pub ref : Missing
  pub after : List (ℕ × Missing)
  pub splits : before ++ (column, ref) ∷ after ≡ refs
  pub there : All (IsAmongRows rows) before
  pub lacking : ¬ IsAmongRows rows (column, ref)

-- the column of the first reference whose node isn't among the rows; none where all are
abbrev pub FindsLacking : List Row → List (ℕ × Missing) → Option ℕ → Type 0
FindsLacking rows refs None = All (IsAmongRows rows) refs
FindsLacking rows refs (Some column) = IsFirstLacking rows refs column

-- a line may repeat an edge or a word, and not a node
abbrev pub may_repeat : Row → Bool
may_repeat (row.Link t from to) = true
may_repeat (row.Dated t from to date) = true
may_repeat (row.Yeared t from to year) = true
may_repeat (row.Word t person text) = true
may_repeat _ = false

-- the row repeats an edge or a word that is among the rows
abbrev pub IsRepeat : List Row → Row → Type 0
IsRepeat rows r = (may_repeat r ≡ true) × Contains rows r

-- one of the rows has the slot of this one, which doesn't repeat it
abbrev pub IsSecond : List Row → Row → Type 0
IsSecond rows r = HasSlot rows (slot_of r) × (¬ IsRepeat rows r)

-- what is wrong with a line beside the rows before it: a node that it refers to isn't among them,
-- or else one of the rows has its slot, which it doesn't repeat
abbrev pub IsAmissBeside : List Row → FileId → Placed → Refusal → Type 0
IsAmissBeside rows file p r =
    FirstOf
    ((λ q. (column : ℕ) × IsFirstLacking rows (refs_of_row p.row p.turned) column
    × (q ≡ Dangling file p.line column))
    ∷ (λ q. IsSecond rows p.row × (q ≡ Duplicate file p.line))
    ∷ [])
    r

-- what is wrong with a line beside those of the files before it (`done`) and those before it in its
-- file (`mine`)
abbrev pub IsAmiss : FileId → List (List Placed) → List Placed → Placed → Refusal → Type 0
IsAmiss file done mine p r = IsAmissBeside (said_rows done mine) file p r

-- what the rows of tables are refused for
abbrev pub table_rules : Rules Placed
table_rules = record { limit = Some MAX_ROWS; own = IsAmiss; bare = λ file items. None }

-- what the files of tables say, and what their rows are refused for
abbrev pub table_format : Format (Unit {0}) Placed
table_format = record { language = λ file. table_language file.kind; rules = table_rules }

-- the graph has exactly the rows that the lines said, and each node that they refer to
pub record IsHeard (g : List Row) (done : List (List Placed)) (mine : List Placed) : Type 0 where
  pub graph : IsGraph g
  pub held : HoldsRefs g
  pub same : (r : Row) → Contains g r ↔ Contains (said_rows done mine) r

-- a row was taken: it repeats one that is there, or it is one row more, whose slot was free
abbrev pub HasTaken : List Row → Row → List Row → Type 0
HasTaken old r new =
    (IsRepeat old r × (new ≡ old)) ⊎ (HasGained old (r ∷ []) new × (¬ HasSlot old (slot_of r)))

-- the nodes that a line refers to are there, and its row was taken
abbrev pub TakesPlaced : List Row → Placed → List Row → Type 0
TakesPlaced old p new = All (IsAmongRows old) (refs_of_row p.row p.turned) × HasTaken old p.row new

-- what a graph does with the lines of tables
abbrev pub table_sink : SinkMeaning (List Row) Placed
table_sink = record {
  fits = λ p. IsTableRow p.row;
  takes = λ old file p new. TakesPlaced old p new;
  refuses = IsAmissBeside;
  same = λ old new. new ≡ old;
  ends = λ s file. None;
  turns = λ old new. new ≡ old;
}

-- the graph is a file_sink of the files of tables
abbrev pub IsTableFileSink : Type 0
IsTableFileSink = IsFileSink table_format IsHeard table_sink
