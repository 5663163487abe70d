-- Laws of columns and lines.
use Rattle.std.specs.Prelude.{◌≡◌, ◌≢◌, ℕ, false, List, [], ◌∷◌, map, All, IsUtf8}
use Rattle.std.specs.List.{join_with_byte}
use Rattle.snb_schema.specs.declared.column.Column.{Column}
use Rattle.snb_schema.specs.declared.column.Value.{Value}
use Rattle.snb_schema.specs.declared.column.Value.TheVariants.{Digits}
use Rattle.snb_schema.specs.Columns.{Spells, SpellsAll, canonical_field}
use Rattle.snb_schema.specs.Lines.{HasNoBar, HasNoEnd, begins_with_mark, fields}

-- what the fields of a line are like
pub record HasPlainFields (line : List ℕ) : Type 0 where
  pub no_bars : All HasNoBar (fields line)
  pub texts : IsUtf8 line → All IsUtf8 (fields line)
  pub no_ends : HasNoEnd line → All HasNoEnd (fields line)

-- a text spells one value of a column at most
abbrev pub OneValue : Type 0
OneValue =
    (column : Column) (x : List ℕ) (v w : Value) → Spells column x v → Spells column x w → v ≡ w

-- and so do the fields of a line
abbrev pub OneList : Type 0
OneList =
    (columns : List Column) (xs : List (List ℕ)) (vs ws : List Value) → SpellsAll columns xs vs
    → SpellsAll columns xs ws → vs ≡ ws

-- the line of the values that these fields spell: it has a field for each, which spells it, and is
-- a text of one line where the fields are
pub record IsOwnLineOfValues (columns : List Column) (xs : List (List ℕ)) (vs : List Value)
    (written : List ℕ) : Type 0 where
  pub split : fields written ≡ map canonical_field vs
  pub spelled : SpellsAll columns (map canonical_field vs) vs
  pub text : All IsUtf8 xs → IsUtf8 written
  pub one_line : All HasNoEnd xs → HasNoEnd written
  pub unmarked : (n : ℕ) (rest : List Value) → vs ≡ Digits n ∷ rest
      → begins_with_mark written ≡ false

-- values that are spelled have a line of their own, of their canonical spellings
abbrev pub OwnLineOfValues : Type 0
OwnLineOfValues =
    (columns : List Column) (xs : List (List ℕ)) (vs : List Value) → columns ≢ []
    → SpellsAll columns xs vs → All HasNoBar xs
    → IsOwnLineOfValues columns xs vs (join_with_byte 124 (map canonical_field vs))
