-- What the complex reads IC1, IC11 and IC13 answer: the things that count, what each shows, in which
-- order, and how many. And then what any read answers.
use Rattle.std.specs.Prelude.{◌≡◌, ℕ, ◌&&◌, nat_lt, ℤ, Bool, List, [], ◌∷◌, filter, map}
use Rattle.std.specs.Cmp.Lexicographic.{slice_cmp}
use Rattle.std.specs.List.{AllZip, flat_map, list_any}
use Rattle.std.specs.Ordering.{nat_cmp, then_cmp, on}
use Rattle.std.specs.Str.{bytes_eq}
use Rattle.std.specs.declared.cmp.Ordering.{Ordering}
use Rattle.snb_schema.specs.declared.nodes.Organisation.{Organisation}
use Rattle.snb_schema.specs.declared.nodes.Place.{Place}
use Rattle.snb_schema.specs.declared.person.Person.{Person}
use Rattle.snb_schema.specs.declared.query.Query.{Query}
use Rattle.snb_schema.specs.declared.query.Query.TheVariants as query
use Rattle.snb_schema.specs.declared.row.Row.{Row}
use Rattle.snb_schema.specs.declared.table.Table.TheVariants as table
use Rattle.snb_read_model.specs.declared.cell.Cell.TheVariants as cell
use Rattle.snb_read_model.specs.Cells.{ByteCell, number_cell}
use Rattle.snb_read_model.specs.Distance.{IsLength, IsWithin}
use Rattle.snb_read_model.specs.MessageReads.{Ic2Answer, Ic7Answer, Ic8Answer, Ic9Answer}
use Rattle.snb_read_model.specs.ShortReads.{Is1Answer, Is2Answer, Is3Answer, Is4Answer, Is5Answer, Is6Answer, Is7Answer}
use Rattle.snb_read_model.specs.Order.{ReadAnswers, SortedAndCut, AllRows, FirstRows, Rising, Falling}
use Rattle.snb_graph_model.specs.Around.{ends, organisations, persons, places, study, words, work}

-- the stays of a cell: name, year, place name
abbrev pub Stay : Type 0
Stay = List ℕ × ℕ × List ℕ

-- by name, then year, then place name
abbrev pub stay_cmp : Stay → Stay → Ordering
stay_cmp =
    then_cmp (on (λ (s : Stay). s.0) (slice_cmp nat_cmp))
    (then_cmp (on (λ (s : Stay). s.1) nat_cmp) (on (λ (s : Stay). s.2) (slice_cmp nat_cmp)))

module _ (g : List Row) where
  -- the organisation, and the place in which it stands directly
  pub record HasItsPlace (id : ℕ) (o : Organisation) (p : Place) : Type 0 where
    pub organisation : organisations g id ≡ o ∷ []
    pub place : ℕ
    pub located : ends g table.OrganisationIsLocatedInPlace id ≡ place ∷ []
    pub held : places g place ≡ p ∷ []

  -- a stay's names
  pub record IsStay (s : ℕ × ℕ) (stay : Stay) : Type 0 where
    pub organisation : Organisation
    pub place : Place
    pub at : HasItsPlace s.0 organisation place
    pub is : stay ≡ (organisation.name, s.1, place.name)

  -- all stays, in order
  pub record AreStays (stays : List (ℕ × ℕ)) (shown : List Stay) : Type 0 where
    pub named : List Stay
    pub each : AllZip IsStay stays named
    pub first : SortedAndCut stay_cmp AllRows named shown

  -- IC1: a person of that name near the start person, with the distance
  pub record IsNamesake (n : ℕ × ℕ) (cells : List ByteCell) : Type 0 where
    pub person : Person
    pub held : persons g n.0 ≡ person ∷ []
    pub city : ℕ
    pub lives : ends g table.PersonIsLocatedInPlace n.0 ≡ city ∷ []
    pub place : Place
    pub there : places g city ≡ place ∷ []
    pub emails : List (List ℕ)
    pub mails : SortedAndCut (slice_cmp nat_cmp) AllRows (words g table.PersonEmailEmailAddress n.0)
        emails
    pub languages : List (List ℕ)
    pub speaks : SortedAndCut (slice_cmp nat_cmp) AllRows (words g table.PersonSpeaksLanguage n.0)
        languages
    pub universities : List Stay
    pub studied : AreStays (study g n.0) universities
    pub companies : List Stay
    pub worked : AreStays (work g n.0) companies
    pub is : cells ≡ number_cell n.0 ∷ cell.Words person.last_name ∷ number_cell n.1
        ∷ number_cell person.birthday ∷ number_cell person.creation_date
        ∷ cell.Words person.gender ∷ cell.Words person.browser_used ∷ cell.Words person.location_ip
        ∷ cell.List emails ∷ cell.List languages
        ∷ cell.Words place.name ∷ cell.Stays universities ∷ cell.Stays companies ∷ []

  -- whether a person of that id has the first name
  abbrev pub is_named : List ℕ → ℕ × ℕ → Bool
  is_named name n = list_any (λ p. bytes_eq p.first_name name) (persons g n.0)

  -- IC1: the persons of a first name at distance 1 to 3, twenty at most: by distance, last name and
  -- id, all ascending
  pub record Ic1Answer (person : ℕ) (first_name : List ℕ) (answer : List (List ByteCell))
      : Type 0 where
    pub near : List (ℕ × ℕ)
    pub within : IsWithin g person 3 near
    pub answers : ReadAnswers (filter (is_named first_name) near) IsNamesake
        (Rising 3 ∷ Rising 2 ∷ Rising 1 ∷ []) (FirstRows 20) answer

  -- whether the organisation stands directly in a place of that name
  abbrev pub is_in : List ℕ → ℕ → Bool
  is_in country id =
      list_any (λ place. list_any (λ p. bytes_eq p.name country) (places g place))
      (ends g table.OrganisationIsLocatedInPlace id)

  -- the persons' work rows before the year in the country, each as (person, organisation, year)
  abbrev pub jobs : List ℕ → ℕ → List (ℕ × ℕ) → List (ℕ × ℕ × ℕ)
  jobs country year ps =
      flat_map (λ p. map (λ w. (p.0, w.0, w.1))
      (filter (λ w. nat_lt w.1 year && is_in country w.0) (work g p.0))) ps

  -- a work row
  pub record IsJob (j : ℕ × ℕ × ℕ) (cells : List ByteCell) : Type 0 where
    pub person : Person
    pub held : persons g j.0 ≡ person ∷ []
    pub organisation : Organisation
    pub at : organisations g j.1 ≡ organisation ∷ []
    pub is : cells ≡ number_cell j.0 ∷ cell.Words person.first_name ∷ cell.Words person.last_name
        ∷ cell.Words organisation.name ∷ number_cell j.2 ∷ []

  -- IC11: the work before the year in the country of persons at distance 1 or 2, ten at most: year
  -- ascending, id ascending, name descending
  pub record Ic11Answer (person : ℕ) (country : List ℕ) (year : ℕ) (answer : List (List ByteCell))
      : Type 0 where
    pub near : List (ℕ × ℕ)
    pub within : IsWithin g person 2 near
    pub answers : ReadAnswers (jobs country year near) IsJob (Rising 5 ∷ Rising 1 ∷ Falling 4 ∷ [])
        (FirstRows 10) answer

  -- IC13: the length of a shortest walk from one person to another, or -1
  abbrev pub Ic13Answer : ℕ → ℕ → List (List ByteCell) → Type 0
  Ic13Answer a b answer = (z : ℤ) × IsLength g a b z × (answer ≡ (cell.Number z ∷ []) ∷ [])

  -- the answer to a query, without those of the reads that follow
  abbrev pub IsAnswer : Query → List (List ByteCell) → Type 0
  IsAnswer (query.Is1 person) = Is1Answer g person
  IsAnswer (query.Is2 person) = Is2Answer g person
  IsAnswer (query.Is3 person) = Is3Answer g person
  IsAnswer (query.Is4 message) = Is4Answer g message
  IsAnswer (query.Is5 message) = Is5Answer g message
  IsAnswer (query.Is6 message) = Is6Answer g message
  IsAnswer (query.Is7 message) = Is7Answer g message
  IsAnswer (query.Ic1 person first_name) = Ic1Answer person first_name
  IsAnswer (query.Ic2 person max_date) = Ic2Answer g person max_date
  IsAnswer (query.Ic7 person) = Ic7Answer g person
  IsAnswer (query.Ic8 person) = Ic8Answer g person
  IsAnswer (query.Ic9 person max_date) = Ic9Answer g person max_date
  IsAnswer (query.Ic11 person country year) = Ic11Answer person country year
  IsAnswer (query.Ic13 from to) = Ic13Answer from to
