-- The fields of a line, read one after another by their columns.
use Rattle.std.specs.Prelude.{◌≡◌, ◌+◌, ◌<◌, ◌≤◌, ℕ, zero, suc, List, [], ◌∷◌, length, take, All, IsUtf8, Option, None, Some}
use Rattle.snb_schema.specs.declared.column.Column.{Column}
use Rattle.snb_schema.specs.declared.column.Value.{Value}
use Rattle.snb_schema.specs.declared.column.Value.TheVariants.{Digits, NoId}
use Rattle.snb_schema.specs.Columns.{Spells, SpellsAll, StopsAfter}
use Rattle.snb_input_fields.specs.Fields.{FieldsMeaning}
use Rattle.snb_input_fields.specs.declared.wide.TheConstants.{COLUMNS_END}

-- the columns, the fields of a line, and how many of these are read
pub record Reading : Type 0 where
  pub columns : List Column
  pub fields : List (List ℕ)
  pub read : ℕ

-- before the first field
abbrev pub at_first : List Column → List (List ℕ) → Reading
at_first columns fields = record { columns = columns; fields = fields; read = 0 }

-- past one field more
abbrev pub past : Reading → Reading
past r = record { columns = r.columns; fields = r.fields; read = r.read + 1 }

-- the column at a place
abbrev pub column_at : List Column → ℕ → Option Column
column_at [] i = None
column_at (c ∷ cs) zero = Some c
column_at (c ∷ cs) (suc i) = column_at cs i

-- the field at a place, and an empty one where there is none
abbrev pub text_at : List (List ℕ) → ℕ → List ℕ
text_at [] i = []
text_at (x ∷ xs) zero = x
text_at (x ∷ xs) (suc i) = text_at xs i

-- the next field is read by this column
abbrev pub IsNext : Reading → Column → Type 0
IsNext r column = column_at r.columns r.read ≡ Some column

-- the next field spells the value in this column
abbrev pub SpellsNext : Reading → Column → Value → Type 0
SpellsNext r column v = Spells column (text_at r.fields r.read) v

-- the next field is the first that spells no value of its column, which is this one, counted from 1
pub record IsBadNext (r : Reading) (column : ℕ) : Type 0 where
  pub stops : StopsAfter r.columns r.fields r.read
  pub at : column ≡ r.read + 1

-- some field is the first that spells no value of its column, which is this one, counted from 1
abbrev pub IsBadIn : List Column → List (List ℕ) → ℕ → Type 0
IsBadIn columns fields column = (n : ℕ) × StopsAfter columns fields n × (column ≡ n + 1)

-- there is a field for each column, which is UTF-8, and those that are read spell values
pub record IsSound (r : Reading) : Type 0 where
  pub texts : All IsUtf8 r.fields
  pub enough : length r.columns ≤ length r.fields
  pub few : length r.columns < COLUMNS_END
  pub within : r.read ≤ length r.columns
  pub done : (vs : List Value) × SpellsAll (take r.read r.columns) (take r.read r.fields) vs

-- the value of an id, or of none
abbrev pub optional_value : Option ℕ → Value
optional_value (Some n) = Digits n
optional_value None = NoId

-- from this place on each column has a field, which spells the value beside it
abbrev pub SpellsFrom : ℕ → List Column → List (List ℕ) → List Value → Type 0
SpellsFrom k [] fs [] = Unit {0}
SpellsFrom k (c ∷ cs) fs (v ∷ vs) = Spells c (text_at fs k) v × SpellsFrom (suc k) cs fs vs
SpellsFrom k _ fs _ = ⊥

-- the fields of a line as fields that are read one after another
abbrev pub line_meaning : FieldsMeaning Reading
line_meaning = record {
  expects = IsNext;
  reads = λ r column v s. SpellsNext r column v × (s ≡ past r);
  stops = λ r column number. IsBadNext r number;
}
