-- The parameters of a read as JSON values.
use Rattle.std.specs.Prelude.{◌≡◌, ◌+◌, ℕ, List, ◌∷◌}
use Rattle.serde_json.specs.Data.{Data}
use Rattle.serde_json.specs.View.{view}
use Rattle.serde_json.specs.declared.value.Value.{Value as Json}
use Rattle.snb_schema.specs.declared.column.Column.{Column}
use Rattle.snb_schema.specs.declared.column.Column.TheVariants.{Number, Small, Date, Words}
use Rattle.snb_schema.specs.declared.column.Value.{Value}
use Rattle.snb_schema.specs.declared.column.Value.TheVariants.{Digits, SmallDigits, Letters}
use Rattle.snb_schema.specs.declared.limits.TheConstants.{MAX_TIME}
use Rattle.snb_schema.specs.declared.query.Query.{Query}
use Rattle.snb_schema.specs.declared.query.ReadKind.{ReadKind}
use Rattle.snb_schema.specs.ReadKinds.{read_kind_of, parameter_columns, parameter_values}
use Rattle.snb_input_fields.specs.Fields.{FieldsMeaning}
use Rattle.snb_validation_cases.specs.Values.{AreAlong, IsNumberTo, IsString}

-- an id, a date and a year are numbers up to the column's greatest, and a text is any string
abbrev pub IsParameter : Column → Data → Value → Type 0
IsParameter (Number most) d (Digits n) = IsNumberTo most d n
IsParameter (Small most) d (SmallDigits n) = IsNumberTo most d n
IsParameter Date d (Digits n) = IsNumberTo MAX_TIME d n
IsParameter Words d (Letters text) = IsString d text
IsParameter _ d _ = ⊥

-- these values are the parameters of the query, in the order of its columns
abbrev pub AreParameters : List Data → Query → Type 0
AreParameters ds query =
    AreAlong IsParameter (parameter_columns (read_kind_of query)) ds (parameter_values query)

-- and the query is of this kind
abbrev pub AreOfKind : ReadKind → List Data → Query → Type 0
AreOfKind kind ds query = (kind ≡ read_kind_of query) × AreParameters ds query

-- the values of an array that are left to read, and how many were read
pub record JsonReading : Type 0 where
  pub left : List Json
  pub read : ℕ

-- the first of the values left is this parameter of the column, and then the others are left
abbrev pub ReadsNext : JsonReading → Column → Value → JsonReading → Type 0
ReadsNext s column v t =
    (value : Json) × (s.left ≡ value ∷ t.left) × (t.read ≡ s.read + 1)
    × IsParameter column (view value) v

-- no value is left, or the first is no parameter of the column, which has this number, counted from 1
abbrev pub StopsNext : JsonReading → Column → ℕ → Type 0
StopsNext s column number =
    ((v : Value) (t : JsonReading) → ¬ ReadsNext s column v t) × (number ≡ s.read + 1)

-- the values of an array as fields that are read one after another
abbrev pub json_meaning : FieldsMeaning JsonReading
json_meaning = record {
  expects = λ s column. Unit {0};
  reads = ReadsNext;
  stops = StopsNext;
}
