-- The post at a message's root. Cited by contracts of private functions alone.
use Rattle.std.specs.Prelude.{ℕ, List}
use Rattle.snb_schema.specs.declared.row.Row.{Row}
use Rattle.snb_schema.specs.declared.table.Kind.TheVariants as kinds
use Rattle.snb_schema.specs.RowKeys.{node_key}
use Rattle.snb_graph_model.specs.Graphs.{HasKey}
use Rattle.snb_graph_model.specs.Messages.{IsRoot}
use Rattle.snb_read_lookups.specs.Lookups.{IsCellNumber}

-- the only one
pub record IsOnlyRoot (g : List Row) (message post : ℕ) : Type 0 where
  pub root : IsRoot g message post
  pub held : HasKey g (node_key kinds.Post post)
  pub fits : IsCellNumber post
