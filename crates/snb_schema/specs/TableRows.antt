-- The rows that a table can have.
use Rattle.std.specs.Prelude.{◌≡◌, ◌≢◌, ◌<◌, ◌≤◌, ◌↔◌, ℕ, Bool, true, List, [], ◌∷◌, IsUtf8}
use Rattle.snb_schema.specs.declared.column.Column.{Column}
use Rattle.snb_schema.specs.declared.column.Column.TheVariants.{Number, Small, OptionalId, Date, Day, Words, Word, TextList, IdList, PairList}
use Rattle.snb_schema.specs.declared.column.Value.{Value}
use Rattle.snb_schema.specs.declared.column.Value.TheVariants.{Digits, SmallDigits, Letters}
use Rattle.snb_schema.specs.declared.limits.TheConstants.{MAX_TIME}
use Rattle.snb_schema.specs.declared.row.Row.{Row}
use Rattle.snb_schema.specs.declared.table.Table.{Table}
use Rattle.snb_schema.specs.Layouts.{has_no_direction, shape}
use Rattle.snb_schema.specs.TableColumns.{columns}
use Rattle.snb_schema.specs.Lines.{HasNoBar, HasNoEnd}
use Rattle.snb_schema.specs.RowLines.{IsRow}
use Rattle.snb_schema.specs.RowValues.{row_shape, table_of, values}

-- a text that a field can hold: UTF-8, without bars and line ends
pub record IsFieldText (text : List ℕ) : Type 0 where
  pub utf8 : IsUtf8 text
  pub no_bar : HasNoBar text
  pub one_line : HasNoEnd text

-- the value is within its column's bounds; no column of a table is a list or an id that may be
-- absent
abbrev pub IsInBounds : Column → Value → Type 0
IsInBounds (Number most) (Digits n) = n ≤ most
IsInBounds (Number most) value = ⊥
IsInBounds (Small most) (SmallDigits n) = n ≤ most
IsInBounds (Small most) value = ⊥
IsInBounds OptionalId value = ⊥
IsInBounds Date (Digits n) = n ≤ MAX_TIME
IsInBounds Date value = ⊥
IsInBounds Day (Digits n) = n ≤ MAX_TIME
IsInBounds Day value = ⊥
IsInBounds Words (Letters text) = IsFieldText text
IsInBounds Words value = ⊥
IsInBounds Word (Letters text) = (text ≢ []) × IsFieldText text
IsInBounds Word value = ⊥
IsInBounds TextList value = ⊥
IsInBounds IdList value = ⊥
IsInBounds PairList value = ⊥

-- there is a value for each column, within its bounds
abbrev pub AreWithin : List Column → List Value → Type 0
AreWithin [] [] = Unit {0}
AreWithin (c ∷ cs) (v ∷ vs) = IsInBounds c v × AreWithin cs vs
AreWithin columns values = ⊥

-- where an edge has no direction, its row has the lower id first
abbrev pub HasLowerFirst : Bool → List Value → Type 0
HasLowerFirst true (Digits one ∷ Digits other ∷ rest) = one < other
HasLowerFirst undirected values = Unit {0}

-- a row that its table can have: of its table's shape, a friendship with the lower id first, and
-- each value within its column's bounds
pub record IsTableRow (r : Row) : Type 0 where
  pub shaped : row_shape r ≡ shape (table_of r)
  pub in_order : HasLowerFirst (has_no_direction (table_of r)) (values r)
  pub within : AreWithin (columns (table_of r)) (values r)

-- some line of the table is the row's
abbrev pub HasLine : Table → Row → Type 0
HasLine t r = (line : List ℕ) × IsRow t line r

-- the rows that a table can have are exactly the rows of its lines
abbrev pub TableRowsAreOfLines : Type 0
TableRowsAreOfLines = (t : Table) (r : Row) → ((table_of r ≡ t) × IsTableRow r) ↔ HasLine t r
