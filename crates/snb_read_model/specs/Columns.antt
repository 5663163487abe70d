-- What stands in each column of a read's rows.
use Rattle.std.specs.Prelude.{List, ⊤}
use Rattle.std.specs.List.{All, AllZip}
use Rattle.snb_schema.specs.declared.query.Query.{Query}
use Rattle.snb_read_model.specs.Cells.{ByteCell}
use Rattle.snb_read_model.specs.declared.cell.Cell.TheVariants as cells
use Rattle.snb_schema.specs.declared.query.CellKind.{CellKind}
use Rattle.snb_schema.specs.declared.query.CellKind.TheVariants.{Number, Flag, Words, Texts, Stays}
use Rattle.snb_schema.specs.declared.query.TargetColumn.{TargetColumn}
use Rattle.snb_schema.specs.ReadKinds.{layout_of}

-- the columns of each read
abbrev pub columns_of : Query → List CellKind
columns_of query = (layout_of query).cells

-- the columns of each read from whose ids further reads may go on, by rising column
abbrev pub target_columns : Query → List TargetColumn
target_columns query = (layout_of query).targets

-- the cell is one of the column
abbrev pub IsOfColumn : CellKind → ByteCell → Type 0
IsOfColumn Number (cells.Number z) = ⊤
IsOfColumn Flag (cells.Flag b) = ⊤
IsOfColumn Words (cells.Words t) = ⊤
IsOfColumn Texts (cells.List ts) = ⊤
IsOfColumn Stays (cells.Stays ss) = ⊤
IsOfColumn column other = ⊥

-- each row of the answer has the columns of the read
abbrev pub HasColumns : Query → List ByteCell → Type 0
HasColumns query row = AllZip IsOfColumn (columns_of query) row

abbrev pub HaveColumns : Query → List (List ByteCell) → Type 0
HaveColumns query answer = All (HasColumns query) answer
