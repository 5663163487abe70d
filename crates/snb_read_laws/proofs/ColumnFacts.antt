-- What each thing shows has a property, so the rows of an answer have it.
use Rattle.std.proofs.Common.{List, [], ◌∷◌, arith}
use Rattle.std.specs.List.{All, AllZip}
use Rattle.std.proofs.lemmas.List.Elements.{All-cons}
use Rattle.snb_read_model.specs.Cells.{ByteCell}
use Rattle.snb_read_model.specs.Order.{ReadAnswers, Cut, Way, by}
use Rattle.snb_read_order.proofs.Laws.{chosen}

-- what each thing shows has a property, so all rows have it
pub zip_rows : {X : Type 0} (Shows : X → List ByteCell → Type 0) (P : List ByteCell → Type 0) → ((x : X) (cells : List ByteCell) → Shows x cells → P cells) → (xs : List X) (rows : List (List ByteCell))
    → AllZip Shows xs rows → All P rows
zip_rows Shows P each [] [] z = λ k d lt. absurd (omega (arith, lt))
zip_rows Shows P each [] (row ∷ rows) z = absurd z
zip_rows Shows P each (x ∷ xs) [] z = absurd z
zip_rows Shows P each (x ∷ xs) (row ∷ rows) z = All-cons P row rows (each x row z.0) (zip_rows Shows P each xs rows z.1)

-- and so have those of an answer
pub rows_have : {X : Type 0} (counted : List X) (Shows : X → List ByteCell → Type 0) (order : List Way) (cut : Cut) (answer : List (List ByteCell)) (P : List ByteCell → Type 0)
    → ((x : X) (cells : List ByteCell) → Shows x cells → P cells) → ReadAnswers counted Shows order cut answer → All P answer
rows_have counted Shows order cut answer P each a = chosen P (by order) cut a.rows answer (zip_rows Shows P each counted a.rows a.shown) a.first
