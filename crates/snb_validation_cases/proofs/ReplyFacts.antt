-- Cells, rows and answers.
use Rattle.std.proofs.Common.{ℕ, List, [], ◌∷◌, Option, Some, None, MatchOption, arith}
use Rattle.std.specs.Prelude.{⊤}
use Rattle.std.specs.List.{AllZip}
use Rattle.std.proofs.lemmas.List.Elements.{All-cons}
use Rattle.serde_json.specs.Data.{Data}
use Rattle.snb_schema.specs.declared.query.Query.{Query}
use Rattle.snb_read_model.specs.Cells.{ByteCell}
use Rattle.snb_read_model.specs.declared.cell.Cell.TheVariants as cell
use Rattle.snb_schema.specs.declared.query.CellKind.{CellKind}
use Rattle.snb_schema.specs.declared.query.CellKind.TheVariants.{Texts, Stays}
use Rattle.snb_read_model.specs.Columns.{HasColumns, HaveColumns, IsOfColumn, columns_of}
use Rattle.snb_validation_cases.specs.Replies.{IsCellIn, IsRow, IsStayData}
use Rattle.snb_validation_cases.specs.Values.{AreAlong, IsArray, IsString}

pub no_list : (d : Data) → ((texts : List (List ℕ)) → ¬ IsArray (AllZip IsString) d texts) → (x : ByteCell) → ¬ IsCellIn Texts d x
no_list d none (cell.List texts) h = none texts h.1
no_list d none x h = absurd h.0

pub no_stays : (d : Data) → ((stays : List (List ℕ × ℕ × List ℕ)) → ¬ IsArray (AllZip IsStayData) d stays) → (x : ByteCell) → ¬ IsCellIn Stays d x
no_stays d none (cell.Stays stays) h = none stays h.1
no_stays d none x h = absurd h.0

cells_columns : (cs : List CellKind) (ds : List Data) (row : List ByteCell) → AreAlong IsCellIn cs ds row → AllZip IsOfColumn cs row
cells_columns [] [] [] h = tt
cells_columns [] [] (x ∷ xs) h = absurd h
cells_columns [] (d ∷ ds) [] h = absurd h
cells_columns [] (d ∷ ds) (x ∷ xs) h = absurd h
cells_columns (c ∷ cs) [] [] h = absurd h
cells_columns (c ∷ cs) [] (x ∷ xs) h = absurd h
cells_columns (c ∷ cs) (d ∷ ds) [] h = absurd h
cells_columns (c ∷ cs) (d ∷ ds) (x ∷ xs) h = (h.0.0, cells_columns cs ds xs h.1)

pub have_columns : (query : Query) (ds : List Data) (rows : List (List ByteCell)) → AllZip (IsRow query) ds rows → HaveColumns query rows
have_columns query [] [] h = λ k d lt. absurd (omega (arith, lt))
have_columns query [] (row ∷ rows) h = absurd h
have_columns query (d ∷ ds) [] h = absurd h
have_columns query (d ∷ ds) (row ∷ rows) h =
    let (es, is, all) = h.0 in
    All-cons (HasColumns query) row rows (cells_columns (columns_of query) es row all) (have_columns query ds rows h.1)

-- the rows of an answer that was read have the columns of the read
pub columns_found : (query : Query) (ds : List Data) (found : Option (List (List ByteCell))) → MatchOption found ((rows : List (List ByteCell)) → ¬ AllZip (IsRow query) ds rows) (AllZip (IsRow query) ds) → MatchOption found ⊤ (HaveColumns query)
columns_found query ds None h = tt
columns_found query ds (Some rows) h = have_columns query ds rows h
