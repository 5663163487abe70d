-- Work rows that walks have found. Cited by contracts of private functions alone.
use Rattle.std.specs.Prelude.{◌≡◌, ℕ, ◌&&◌, nat_lt, Bool, Option, Some, List, [], ◌∷◌, filter, map}
use Rattle.std.specs.List.{All}
use Rattle.snb_schema.specs.declared.nodes.Organisation.{Organisation}
use Rattle.snb_schema.specs.declared.row.Row.{Row}
use Rattle.snb_graph_model.specs.Around.{organisations, work}
use Rattle.snb_read_model.specs.ComplexReads.{is_in}
use Rattle.snb_read_model.specs.Distance.{IsPerson}
use Rattle.snb_read_lookups.specs.Lookups.{IsCellNumber}
use denote.Ref.{Bor}

-- a work row as (person, organisation, year), and the organisation's name
abbrev pub Job : Type 0
Job = (ℕ × ℕ × ℕ) × Bor (List ℕ)

abbrev pub job_of : Job → ℕ × ℕ × ℕ
job_of j = j.0

module _ (g : List Row) where
  -- a person's work rows before the year in the country, each as (person, organisation, year)
  abbrev pub jobs_by : List ℕ → ℕ → ℕ → List (ℕ × ℕ × ℕ)
  jobs_by country year person =
      map (λ w. (person, w.0, w.1))
      (filter (λ w. nat_lt w.1 year && is_in g country w.0) (work g person))

  -- a work row of a person who is held, with the organisation's name
  pub record IsJobFound (j : Job) : Type 0 where
    pub person : IsPerson g j.0.0
    pub fits : IsCellNumber j.0.0
    pub year_fits : IsCellNumber j.0.2
    pub organisation : Organisation
    pub at : organisations g j.0.1 ≡ organisation ∷ []
    pub named : j.1.now ≡ organisation.name

  -- these work rows are found, in this order
  pub record AreJobs (all : List (ℕ × ℕ × ℕ)) (found : List Job) : Type 0 where
    pub same : map job_of found ≡ all
    pub each : All IsJobFound found

  -- what is remembered of an organisation is whether it stands in the country
  abbrev pub AreSeen : List ℕ → (ℕ → Option Bool) → Type 0
  AreSeen country seen = (o : ℕ) (b : Bool) → seen o ≡ Some b → b ≡ is_in g country o
