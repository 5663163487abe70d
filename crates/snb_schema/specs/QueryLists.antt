-- The parameters of the complex queries, a list for each.
use Rattle.std.specs.Prelude.{◌≡◌, ℕ, ◌<◌, List, [], length}
use Rattle.std.specs.List.{All}
use Rattle.snb_schema.specs.declared.query.Query.{Query}
use Rattle.snb_schema.specs.Frequencies.{FrequencyTable, frequency_at}
use Rattle.snb_schema.specs.Queries.{number_of_query}
use Rattle.snb_schema.specs.declared.query.TheConstants.{COMPLEX_COUNT}
use Rattle.snb_schema.specs.QueryPlaces.{Values, place_of, value_at}

-- the list of each of the seven queries, at its place
abbrev pub QueryLists : Type 0
QueryLists = Values COMPLEX_COUNT (List Query)

-- the list of the query of this number; any other number has none
abbrev pub list_of : QueryLists → ℕ → List Query
list_of lists q = value_at COMPLEX_COUNT lists (place_of q) []

-- each query with a frequency has a parameter
abbrev pub HaveParameters : QueryLists → FrequencyTable → Type 0
HaveParameters lists frequencies =
    (q : ℕ) → 0 < frequency_at frequencies q → 0 < length (list_of lists q)

-- these are all queries of that number
abbrev pub AreOf : ℕ → List Query → Type 0
AreOf q list = All (λ one. number_of_query one ≡ q) list

-- each list has queries of its kind alone
abbrev pub AreSorted : QueryLists → Type 0
AreSorted lists = (q : ℕ) → AreOf q (list_of lists q)
