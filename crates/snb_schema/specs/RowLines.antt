-- The lines of the tables: a relation between one line and its row, and what is wrong with a line
-- that has none.
use Rattle.std.specs.Prelude.{◌≡◌, ◌+◌, ℕ, Bool, true, false, List, [], ◌∷◌, ◌++◌, length, map, IsUtf8}
use Rattle.std.specs.List.{join_with_byte}
use Rattle.snb_base.specs.FirstOf.{FirstOf}
use Rattle.snb_base.specs.Spellings.{SpellsId}
use Rattle.snb_schema.specs.declared.column.Value.{Value}
use Rattle.snb_schema.specs.declared.row.Row.{Row}
use Rattle.snb_schema.specs.declared.table.Table.{Table}
use Rattle.snb_schema.specs.Columns.{SpellsAll, StopsAfter, canonical_field}
use Rattle.snb_schema.specs.Layouts.{has_no_direction, shape}
use Rattle.snb_schema.specs.TableColumns.{columns}
use Rattle.snb_schema.specs.Lines.{HasNoEnd, fields, begins_with_mark}
use Rattle.snb_schema.specs.RowValues.{Differ, IsWide, NoneOrEmpty, in_order, is_turned, row_shape, table_of, values}

-- the fields of a line of the table spell the row, and whether they have its ends the other way
-- round
pub record SpellsRow (t : Table) (fs : List (List ℕ)) (r : Row) (turned : Bool) : Type 0 where
  pub table : table_of r ≡ t
  pub shaped : row_shape r ≡ shape t
  pub own : List (List ℕ)
  pub extra : List (List ℕ)
  pub split : fs ≡ own ++ extra
  pub no_more : NoneOrEmpty extra
  pub said : List Value
  pub spelled : SpellsAll (columns t) own said
  pub differ : Differ (has_no_direction t) said
  pub kept : values r ≡ in_order (has_no_direction t) said
  pub turns : turned ≡ is_turned (has_no_direction t) said

-- the line is the row's: one line of UTF-8, without a byte order mark, and its fields spell the row
pub record IsRow (t : Table) (line : List ℕ) (r : Row) : Type 0 where
  pub text : IsUtf8 line
  pub unmarked : begins_with_mark line ≡ false
  pub one_line : HasNoEnd line
  pub turned : Bool
  pub spelled : SpellsRow t (fields line) r turned

-- the line is a header of the table: one line of UTF-8, without a byte order mark, of which only
-- the number of fields counts
pub record IsHeader (t : Table) (line : List ℕ) : Type 0 where
  pub text : IsUtf8 line
  pub unmarked : begins_with_mark line ≡ false
  pub one_line : HasNoEnd line
  pub wide : IsWide (length (columns t)) (fields line)

-- the first two fields spell one id, where an edge has no direction
abbrev pub IsLoop : Bool → List (List ℕ) → Type 0
IsLoop true (x ∷ y ∷ rest) = (id : ℕ) × SpellsId x id × SpellsId y id
IsLoop _ fs = ⊥

-- these fields are no row of the table, in this column first: 0 where their number is wrong, 2
-- where an edge without direction leads back to its begin, else that of the first field that spells
-- no value of its column
abbrev pub IsBadColumn : Table → List (List ℕ) → ℕ → Type 0
IsBadColumn t fs column =
    FirstOf
    ((λ c. ¬ IsWide (length (columns t)) fs × (c ≡ 0))
    ∷ (λ c. IsLoop (has_no_direction t) fs × (c ≡ 2))
    ∷ (λ c. (n : ℕ) × StopsAfter (columns t) fs n × (c ≡ n + 1))
    ∷ [])
    column

-- the row's line with numbers and dates as digits and without a field that is extra, without a line
-- end
abbrev pub canonical : Row → List ℕ
canonical r = join_with_byte 124 (map canonical_field (values r))
