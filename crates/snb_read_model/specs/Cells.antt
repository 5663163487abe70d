-- The cells of rows, and how they compare.
use Rattle.std.specs.Prelude.{ℕ, ◌-◌, ℤ, pos, List, [], slice_index_or}
use Rattle.std.specs.Cmp.Lexicographic.{slice_cmp}
use Rattle.std.specs.Ordering.{nat_cmp, int_cmp, then_cmp, on}
use Rattle.std.specs.declared.cmp.Ordering.{Ordering}
use Rattle.snb_read_model.specs.declared.cell.Cell.{Cell as CellOf}
use Rattle.snb_read_model.specs.declared.cell.Cell.TheVariants.{Number, Words}

-- a cell; its texts are seen as their UTF-8 bytes, whosever they are
abbrev pub ByteCell : Type 0
ByteCell = CellOf (List ℕ)

-- the cell of a number
abbrev pub number_cell : ℕ → ByteCell
number_cell n = Number (pos n)

-- a column of a row, counted from 1; one that isn't there is 0
abbrev pub column : ℕ → List ByteCell → ByteCell
column n row = slice_index_or row (n - 1) (Number (pos 0))

-- the number of a cell, 0 of any other
abbrev pub number_in : ByteCell → ℤ
number_in (Number z) = z
number_in other = pos 0

-- the text of a cell, empty of any other
abbrev pub text_in : ByteCell → List ℕ
text_in (Words t) = t
text_in other = []

-- numbers compare as numbers, texts by their UTF-8 bytes; any other cells are equal
abbrev pub cell_cmp : ByteCell → ByteCell → Ordering
cell_cmp = then_cmp (on number_in int_cmp) (on text_in (slice_cmp nat_cmp))
