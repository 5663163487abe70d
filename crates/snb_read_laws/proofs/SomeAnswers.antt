-- There is an answer, where each thing shows a row.
use Rattle.std.proofs.Common.{List, [], ◌∷◌}
use Rattle.std.specs.List.{AllZip, Contains}
use Rattle.snb_read_order.specs.Laws.{SomeFirst}
use Rattle.snb_base.proofs.Laws.{contains_here, contains_there}
use Rattle.snb_read_model.specs.Cells.{ByteCell}
use Rattle.snb_read_model.specs.Order.{ReadAnswers, Cut, Way, by}
use Rattle.snb_read_laws.proofs.Ties.{by_total}

-- ---- rows beside things

module _ {X Y : Type 0} (R : X → Y → Type 0) where
  pub some_zip : (xs : List X) → ((x : X) → Contains xs x → (y : Y) × R x y) → (ys : List Y) × AllZip R xs ys
  some_zip [] each = ([], tt)
  some_zip (x ∷ xs) each =
      let (y, here) = each x (contains_here x xs) in
      let (ys, rest) = some_zip xs (λ z c. each z (contains_there x xs z c)) in
      (y ∷ ys, (here, rest))

-- where each thing that counts shows a row, there is an answer
pub some_answers : {X : Type 0} → SomeFirst (List ByteCell) → (counted : List X) (Shows : X → List ByteCell → Type 0) (order : List Way) (cut : Cut)
    → ((x : X) → Contains counted x → (row : List ByteCell) × Shows x row) → (answer : List (List ByteCell)) × ReadAnswers counted Shows order cut answer
some_answers some counted Shows order cut each =
    let (rows, shown) = some_zip Shows counted each in
    let (answer, first) = some (by order) cut rows (by_total order) in
    (answer, record { rows = rows; shown = shown; first = first })
