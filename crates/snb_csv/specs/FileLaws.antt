-- Laws of the files of tables.
use Rattle.std.specs.Prelude.{◌≡◌, ℕ, Some, None, List}
use Rattle.snb_schema.specs.declared.row.Placed.{Placed}
use Rattle.snb_schema.specs.declared.table.Table.{Table}
use Rattle.snb_schema.specs.Lines.{lines}
use Rattle.snb_schema.specs.RowLines.{IsHeader, IsRow}
use Rattle.snb_input_lines.specs.Files.{AreUnder}
use Rattle.snb_input_lines.specs.Laws.{ReadsOnce}
use Rattle.snb_input_lines.specs.Reading.{Says}
use Rattle.snb_csv.specs.Rows.{row_language}

-- the line of this number is that of the row, which has its number and says whether the line has
-- its ends the other way round
pub record IsPlacedRow (t : Table) (number : ℕ) (line : List ℕ) (p : Placed) : Type 0 where
  pub numbered : p.line ≡ number
  pub is_row : IsRow t line p.row
  pub turned : p.turned ≡ is_row.turned

-- the rows that a table's file says, from its first line to its last, are those of its data lines
-- in order, under a header of the table
abbrev pub TableFiles : Type 0
TableFiles = (t : Table) (bytes : List ℕ) (rows : List Placed)
    → Says (row_language t) None 0 (lines bytes) rows (Some tt)
    → AreUnder (IsHeader t) (IsPlacedRow t) (lines bytes) rows

-- lines say one list of rows at most, and where they say one none of them is refused
abbrev pub OneTableReading : Type 0
OneTableReading = (t : Table) → ReadsOnce (row_language t)
