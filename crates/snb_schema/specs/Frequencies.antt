-- How often each complex query is asked, and the texts that say so.
use Rattle.std.specs.Prelude.{◌≡◌, ℕ, ◌<◌, ◌≤◌, ◌==◌, List, [], ◌∷◌, ◌++◌, if◌then◌else◌, map}
use Rattle.std.specs.List.{slice_split}
use Rattle.std.specs.List.Sorted.{IsStrictlyIncreasing}
use Rattle.snb_base.specs.Spellings.{Num, EachSpells}
use Rattle.snb_schema.specs.declared.limits.TheConstants.{MAX_FREQUENCY}
use Rattle.snb_schema.specs.Queries.{IsComplex}
use Rattle.snb_schema.specs.declared.query.TheConstants.{COMPLEX_COUNT}
use Rattle.snb_schema.specs.QueryPlaces.{Values, place_of, value_at}

-- the frequency of each of the seven queries at its place, 0 where it has none
abbrev pub FrequencyTable : Type 0
FrequencyTable = Values COMPLEX_COUNT ℕ

-- the frequency of the query of this number; any other number has none
abbrev pub frequency_at : FrequencyTable → ℕ → ℕ
frequency_at table q = value_at COMPLEX_COUNT table (place_of q) 0

-- no frequency is above the greatest
abbrev pub AreBounded : FrequencyTable → Type 0
AreBounded table = (q : ℕ) → frequency_at table q ≤ MAX_FREQUENCY

-- x is `q:f`: the number of a complex query, and a frequency that isn't 0
pub record SpellsFrequency (x : List ℕ) (pair : ℕ × ℕ) : Type 0 where
  pub query : List ℕ
  pub frequency : List ℕ
  pub splits : x ≡ query ++ 58 ∷ frequency
  pub numbered : Num query pair.0 MAX_FREQUENCY
  pub counted : Num frequency pair.1 MAX_FREQUENCY
  pub complex : IsComplex pair.0
  pub positive : 0 < pair.1

-- between its commas x has `q:f` for each of these pairs, in order, and the queries rise
pub record SpellsFrequencies (x : List ℕ) (pairs : List (ℕ × ℕ)) : Type 0 where
  pub spelled : EachSpells SpellsFrequency (slice_split (λ b. b == 44) x) pairs
  pub rising : IsStrictlyIncreasing (map (λ pair. pair.0) pairs)

-- a text says one list of frequencies at most
abbrev pub FrequenciesAreOne : Type 0
FrequenciesAreOne =
    (x : List ℕ) (pairs others : List (ℕ × ℕ)) → SpellsFrequencies x pairs
    → SpellsFrequencies x others → pairs ≡ others

-- the frequency beside a query, and 0 where the query isn't there
abbrev pub frequency_in : List (ℕ × ℕ) → ℕ → ℕ
frequency_in [] q = 0
frequency_in (pair ∷ pairs) q = if q == pair.0 then pair.1 else frequency_in pairs q

-- each query has the frequency beside it
abbrev pub HasFrequencies : FrequencyTable → List (ℕ × ℕ) → Type 0
HasFrequencies table pairs = (q : ℕ) → frequency_at table q ≡ frequency_in pairs q
