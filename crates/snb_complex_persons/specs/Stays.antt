-- Studies and work that walks have found. Cited by contracts of private functions alone.
use Rattle.std.specs.Prelude.{ℕ, ◌<◌, ◌^◌, List}
use Rattle.snb_schema.specs.declared.row.Row.{Row}
use Rattle.snb_schema.specs.declared.table.Kind.TheVariants as kinds
use Rattle.snb_schema.specs.RowKeys.{node_key}
use Rattle.snb_graph_model.specs.Graphs.{HasKey}

-- an organisation that is held and a year, as (organisation, year)
pub record IsStayFound (g : List Row) (s : ℕ × ℕ) : Type 0 where
  pub held : HasKey g (node_key kinds.Organisation s.0)
  pub fits : s.1 < 2 ^ 32
