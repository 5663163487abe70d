-- What walks have found. Cited by contracts of private functions alone.
use Rattle.std.specs.Prelude.{ℕ, List}
use Rattle.snb_schema.specs.declared.row.Row.{Row}
use Rattle.snb_graph_model.specs.Messages.{HasMessage}
use Rattle.snb_read_model.specs.Distance.{IsPerson}
use Rattle.snb_read_lookups.specs.Lookups.{IsCellNumber}

module _ (g : List Row) where
  -- a message that is held, and its date
  pub record IsMessageFound (m : ℕ × ℕ) : Type 0 where
    pub held : HasMessage g m.0
    pub id_fits : IsCellNumber m.0
    pub date_fits : IsCellNumber m.1

  -- a friend who is held, and the date
  pub record IsFriendFound (f : ℕ × ℕ) : Type 0 where
    pub held : IsPerson g f.0
    pub id_fits : IsCellNumber f.0
    pub date_fits : IsCellNumber f.1
