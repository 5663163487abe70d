-- The replies to a message that a walk has found. Cited by contracts of private functions alone.
use Rattle.std.specs.Prelude.{◌≡◌, ℕ, List, [], ◌∷◌, map}
use Rattle.std.specs.List.{All}
use Rattle.std.specs.List.Sorted.{IsPermutation}
use Rattle.snb_schema.specs.declared.row.Row.{Row}
use Rattle.snb_schema.specs.declared.table.Kind.TheVariants as kinds
use Rattle.snb_schema.specs.RowKeys.{node_key}
use Rattle.snb_graph_model.specs.Graphs.{HasKey}
use Rattle.snb_graph_model.specs.Messages.{HasMessage}
use Rattle.snb_graph_model.specs.Around.{authors, replies}
use Rattle.snb_read_lookups.specs.Lookups.{IsCellNumber}

-- a reply with its author, as (id, date, author), without the author
abbrev pub without_author : ℕ × ℕ × ℕ → ℕ × ℕ
without_author z = (z.0, z.1)

module _ (g : List Row) where
  -- a comment that replies to the message, with its author
  pub record IsReplyFound (message : ℕ) (z : ℕ × ℕ × ℕ) : Type 0 where
    pub held : HasKey g (node_key kinds.Comment z.0)
    pub parent : HasMessage g message
    pub made : authors g z.0 ≡ z.2 ∷ []
    pub id_fits : IsCellNumber z.0
    pub date_fits : IsCellNumber z.1

  -- all replies to the message, in any order
  pub record AreReplies (message : ℕ) (found : List (ℕ × ℕ × ℕ)) : Type 0 where
    pub same : IsPermutation (replies g message) (map without_author found)
    pub each : All (IsReplyFound message) found
