-- Laws of the tables' lines.
use Rattle.std.specs.Prelude.{◌≡◌, ◌⊎◌, ℕ, Bool, List, All}
use Rattle.snb_schema.specs.declared.row.Row.{Row}
use Rattle.snb_schema.specs.declared.table.Table.{Table}
use Rattle.snb_schema.specs.RowLines.{IsBadColumn, IsRow, SpellsRow, canonical}
use Rattle.snb_schema.specs.RowValues.{table_of}
use Rattle.snb_schema.specs.TableRows.{IsFieldText, IsTableRow}

-- the fields of a line spell one row at most
abbrev pub OneRow : Type 0
OneRow = (t : Table) (fs : List (List ℕ)) (r q : Row) (a b : Bool) → SpellsRow t fs r a
    → SpellsRow t fs q b → (r ≡ q) × (a ≡ b)

-- the line that is written for a row of a line spells that row again, is one line, and spells no
-- other row; and it is the same for each line of the row, so what is read from it is written as it
-- stands
pub record IsOwnRowLine (t : Table) (r : Row) : Type 0 where
  pub again : IsRow t (canonical r) r
  pub no_other : (q : Row) → IsRow t (canonical r) q → q ≡ r
  pub same : (q : Row) → IsRow t (canonical r) q → canonical q ≡ canonical r

abbrev pub OwnRowLine : Type 0
OwnRowLine = (t : Table) (line : List ℕ) (r : Row) → IsRow t line r → IsOwnRowLine t r

-- fields that spell a row have no bad column
abbrev pub RowsAreRight : Type 0
RowsAreRight =
    (t : Table) (fs : List (List ℕ)) (r : Row) (turned : Bool) (column : ℕ)
    → SpellsRow t fs r turned → ¬ IsBadColumn t fs column

-- fields have one bad column at most
abbrev pub OneColumn : Type 0
OneColumn =
    (t : Table) (fs : List (List ℕ)) (a b : ℕ) → IsBadColumn t fs a → IsBadColumn t fs b → a ≡ b

-- fields spell a row, or they have a bad column
abbrev pub RowOrColumn : Type 0
RowOrColumn =
    (t : Table) (fs : List (List ℕ))
    → ((r : Row) × (turned : Bool) × SpellsRow t fs r turned)
    ⊎ ((column : ℕ) × IsBadColumn t fs column)

-- a row that texts of fields spell is a row that its table can have
abbrev pub RowsOfFieldsFit : Type 0
RowsOfFieldsFit =
    (t : Table) (fs : List (List ℕ)) (r : Row) (turned : Bool) → All IsFieldText fs
    → SpellsRow t fs r turned → (table_of r ≡ t) × IsTableRow r
