-- Persons found by going over all of them. Cited by contracts of private functions alone.
use Rattle.std.specs.Prelude.{◌≡◌, ◌&&◌, ◌==◌, ℕ, nat_lt, Bool, true, false, List, Option, Some, None, if◌then◌else◌}
use Rattle.std.specs.List.{list_any}
use Rattle.snb_schema.specs.declared.row.Row.{Row}
use Rattle.snb_schema.specs.declared.row.Row.TheVariants as row
use Rattle.snb_graph_model.specs.Around.{friends}
use Rattle.snb_read_model.specs.ComplexReads.{is_named}
use Rattle.snb_read_lookups.specs.Lookups.{IsOnlyPerson}
use Rattle.snb_complex_persons.specs.Namesakes.{Namesake, namesake_of}

-- the id in a person's row
abbrev pub id_of : Row → ℕ
id_of (row.Person p) = p.id
id_of other = 0

-- whether there is a distance, and it is 2
abbrev pub is_two : Option ℕ → Bool
is_two (Some n) = n == 2
is_two None = false

-- a distance that is there, else 3 or 0
abbrev pub or_three : Option ℕ → Bool → ℕ
or_three (Some n) has = n
or_three None has = if has then 3 else 0

-- whether a friend of a person was met at distance 2
abbrev pub has_second : List Row → (ℕ → Option ℕ) → ℕ → Bool
has_second g met person = list_any (λ f. is_two (met f.0)) (friends g person)

-- the distance of a person, by those met within two steps: where the person wasn't met, 3 if a
-- friend was at 2, else 0
abbrev pub distance_by : List Row → (ℕ → Option ℕ) → ℕ → ℕ
distance_by g met person = or_three (met person) (has_second g met person)

-- a person with that distance
abbrev pub placed : List Row → (ℕ → Option ℕ) → ℕ → ℕ × ℕ
placed g met person = (person, distance_by g met person)

-- whether the first name is the person's, and the distance above 0
abbrev pub is_wanted : List Row → List ℕ → ℕ × ℕ → Bool
is_wanted g name n = is_named g name n && nat_lt 0 n.1

-- a person who is wanted, with the distance
pub record IsScanned (g : List Row) (met : ℕ → Option ℕ) (name : List ℕ) (person : ℕ) (k : Namesake)
    : Type 0 where
  pub wanted : is_wanted g name (placed g met person) ≡ true
  pub named : namesake_of k ≡ placed g met person
  pub only : IsOnlyPerson g k.0.now.id k.0.now
