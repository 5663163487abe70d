-- Laws of columns and lines.
use Rattle.std.specs.Prelude.{◌≤◌, ◌⊎◌, ℕ, List, length, take}
use Rattle.snb_schema.specs.declared.column.Column.{Column}
use Rattle.snb_schema.specs.declared.column.Value.{Value}
use Rattle.snb_schema.specs.Columns.{Spells, SpellsAll, StopsAfter}

-- a text spells a value of a column, or it spells none
abbrev pub EachIsSpelled : Type 0
EachIsSpelled =
    (column : Column) (x : List ℕ) → ((v : Value) × Spells column x v)
    ⊎ ((v : Value) → ¬ Spells column x v)

-- where there is a field for each column, the first fields spell a value of each, or one of them is
-- the first that spells none, and those before it spell values
abbrev pub EachLineIsRead : Type 0
EachLineIsRead = (columns : List Column) (xs : List (List ℕ)) → length columns ≤ length xs
    → ((vs : List Value) × SpellsAll columns (take (length columns) xs) vs)
    ⊎ ((n : ℕ) × (vs : List Value) × StopsAfter columns xs n
    × SpellsAll (take n columns) (take n xs) vs)
