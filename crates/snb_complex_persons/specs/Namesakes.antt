-- Persons near another who are found. Cited by contracts of private functions alone.
use Rattle.std.specs.Prelude.{◌≡◌, ℕ, List, map}
use Rattle.std.specs.List.{All, filter}
use Rattle.snb_schema.specs.declared.person.Person.{Person}
use Rattle.snb_schema.specs.declared.row.Row.{Row}
use Rattle.snb_read_model.specs.ComplexReads.{is_named}
use Rattle.snb_read_model.specs.Distance.{IsPerson, IsWithin}
use Rattle.snb_read_lookups.specs.Lookups.{IsCellNumber, IsOnlyPerson}
use denote.Ref.{Bor}

-- a person, and the distance
abbrev pub Namesake : Type 0
Namesake = Bor Person × ℕ

abbrev pub namesake_of : Namesake → ℕ × ℕ
namesake_of k = (k.0.now.id, k.1)

module _ (g : List Row) where
  -- a person who is held, and a distance
  pub record IsNearFound (n : ℕ × ℕ) : Type 0 where
    pub held : IsPerson g n.0
    pub fits : IsCellNumber n.1

  -- a person who is held, at a distance
  pub record IsNamesakeFound (k : Namesake) : Type 0 where
    pub held : IsPerson g k.0.now.id
    pub person : IsOnlyPerson g k.0.now.id k.0.now
    pub fits : IsCellNumber k.1

  -- these persons are found, in this order
  pub record AreNamesakes (all : List (ℕ × ℕ)) (found : List Namesake) : Type 0 where
    pub same : map namesake_of found ≡ all
    pub each : All IsNamesakeFound found

  -- these are those of a first name at distance 1 to `steps`
  pub record AreNamesakesWithin (person steps : ℕ) (name : List ℕ) (found : List Namesake)
      : Type 0 where
    pub near : List (ℕ × ℕ)
    pub within : IsWithin g person steps near
    pub are : AreNamesakes (filter (is_named g name) near) found
