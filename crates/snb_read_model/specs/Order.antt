-- Rows in an order, and the first of them.
use Rattle.std.specs.Prelude.{◌≡◌, ℕ, List, [], ◌∷◌, take}
use Rattle.std.specs.List.{AllZip}
use Rattle.std.specs.List.Sorted.{IsPermutation, IsSorted}
use Rattle.std.specs.Ordering.{ordering_then, on, flip_args}
use Rattle.std.specs.declared.cmp.Ordering.{Ordering}
use Rattle.std.specs.declared.cmp.Ordering.TheVariants.{Equal}
use Rattle.snb_read_model.specs.Cells.{ByteCell, cell_cmp, column}

-- how many rows an answer keeps
pub data Cut : Type 0 where
  AllRows : Cut
  FirstRows : ℕ → Cut

abbrev pub cut_at : {X : Type 0} → Cut → List X → List X
cut_at AllRows xs = xs
cut_at (FirstRows n) xs = take n xs

-- the answer is the rows, each as often as it is among them, in this order, and of these the first
pub record SortedAndCut {X : Type 0} (order : X → X → Ordering) (cut : Cut) (rows answer : List X)
    : Type 0 where
  pub sorted : List X
  pub same : IsPermutation rows sorted
  pub ordered : IsSorted order sorted
  pub kept : answer ≡ cut_at cut sorted

-- a column, and whether its cells rise or fall
pub data Way : Type 0 where
  Rising : ℕ → Way
  Falling : ℕ → Way

abbrev pub way_cmp : Way → List ByteCell → List ByteCell → Ordering
way_cmp (Rising n) = on (column n) cell_cmp
way_cmp (Falling n) = flip_args (on (column n) cell_cmp)

-- by the first of these columns, then by the next, and so on
abbrev pub by : List Way → List ByteCell → List ByteCell → Ordering
by [] x y = Equal
by (w ∷ ws) x y = ordering_then (way_cmp w x y) (by ws x y)

-- what a read answers: a row for each thing that counts, in this order, cut
pub record ReadAnswers {X : Type 0} (counted : List X) (Shows : X → List ByteCell → Type 0)
    (order : List Way) (cut : Cut) (answer : List (List ByteCell)) : Type 0 where
  pub rows : List (List ByteCell)
  pub shown : AllZip Shows counted rows
  pub first : SortedAndCut (by order) cut rows answer
