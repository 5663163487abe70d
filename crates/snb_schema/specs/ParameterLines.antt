-- The lines of the parameter files: a relation between one line and its query, and what is wrong
-- with a line that has none.
use Rattle.std.specs.Prelude.{◌≡◌, ◌≢◌, ◌+◌, ℕ, false, List, [], ◌∷◌, length, IsUtf8}
use Rattle.std.specs.Option.{option_map_or}
use Rattle.snb_base.specs.FirstOf.{FirstOf}
use Rattle.snb_schema.specs.declared.column.Column.{Column}
use Rattle.snb_schema.specs.declared.query.Query.{Query}
use Rattle.snb_schema.specs.Columns.{SpellsAll, StopsAfter}
use Rattle.snb_schema.specs.Lines.{HasNoEnd, begins_with_mark, fields}
use Rattle.snb_schema.specs.Queries.{complex_kind, number_of_query}
use Rattle.snb_schema.specs.ReadKinds.{parameter_columns, parameter_values}

-- the columns of the parameters of a complex query, by its number; any other number has none
abbrev pub query_columns : ℕ → List Column
query_columns q = option_map_or parameter_columns (complex_kind q) []

-- the fields are those of a query of this number
abbrev pub SpellsQuery : ℕ → List (List ℕ) → Query → Type 0
SpellsQuery q fs one = (number_of_query one ≡ q) × SpellsAll (query_columns q) fs (parameter_values one)

-- the line is the query's: one line of UTF-8, without a byte order mark, and its fields spell the
-- query
pub record IsParams (q : ℕ) (line : List ℕ) (one : Query) : Type 0 where
  pub text : IsUtf8 line
  pub unmarked : begins_with_mark line ≡ false
  pub one_line : HasNoEnd line
  pub spelled : SpellsQuery q (fields line) one

-- these fields are no parameters of the query, in this column first: 0 where their number is wrong,
-- else that of the first field that spells no value of its column
abbrev pub IsBadQuery : ℕ → List (List ℕ) → ℕ → Type 0
IsBadQuery q fs column =
    FirstOf
    ((λ c. (length fs ≢ length (query_columns q)) × (c ≡ 0))
    ∷ (λ c. (n : ℕ) × StopsAfter (query_columns q) fs n × (c ≡ n + 1))
    ∷ [])
    column
