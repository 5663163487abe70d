-- The reads, and the numbers of the complex ones.
use Rattle.std.specs.Prelude.{◌≡◌, ◌==◌, ℕ, ◌⊎◌, List, [], ◌∷◌, map, Option, Some, None, if◌then◌else◌}
use Rattle.snb_schema.specs.declared.query.Query.{Query}
use Rattle.snb_schema.specs.declared.query.ReadKind.{ReadKind}
use Rattle.snb_schema.specs.ReadKinds.{complex_reads, number_of_kind, read_kind_of}

-- the numbers of the seven complex queries, in order
abbrev pub complex_queries : List ℕ
complex_queries = map number_of_kind complex_reads

-- the number is one of the list
abbrev pub IsOneOf : ℕ → List ℕ → Type 0
IsOneOf q [] = ⊥
IsOneOf q (x ∷ xs) = (q ≡ x) ⊎ IsOneOf q xs

-- the number is that of a complex query
abbrev pub IsComplex : ℕ → Type 0
IsComplex q = IsOneOf q complex_queries

-- the number of a complex query, and 0 for a short read
abbrev pub number_of_query : Query → ℕ
number_of_query one = number_of_kind (read_kind_of one)

-- the first of the kinds that has this number
abbrev pub numbered : List ReadKind → ℕ → Option ReadKind
numbered [] q = None
numbered (kind ∷ kinds) q = if number_of_kind kind == q then Some kind else numbered kinds q

-- the kind of the complex query of this number
abbrev pub complex_kind : ℕ → Option ReadKind
complex_kind q = numbered complex_reads q
