-- Parts of a graph.
use Rattle.std.specs.Prelude.{◌≡◌, ℕ, List, All, refl}
use Rattle.std.specs.List.Sorted.{IsStrictlySortedBy}
use Rattle.snb_schema.specs.declared.layout.KeyColumns.{KeyColumns}
use Rattle.snb_schema.specs.declared.layout.KeyColumns.TheVariants.{First, Second, FirstTwo}
use Rattle.snb_schema.specs.declared.row.Row.{Row}
use Rattle.snb_schema.specs.declared.row.Row.TheVariants as row
use Rattle.snb_schema.specs.declared.table.Table.{Table}
use Rattle.snb_schema.specs.Layouts.{key_columns}
use Rattle.snb_schema.specs.RowKeys.{edge_key, row_key}
use Rattle.snb_schema.specs.RowValues.{table_of}
use Rattle.snb_graph_model.specs.Graphs.{part, row_order}

edge_table : (columns : KeyColumns) (t : Table) (from to : ℕ) → (edge_key columns t from to).0 ≡ t
edge_table First t from to = refl
edge_table Second t from to = refl
edge_table FirstTwo t from to = refl

-- the table of a row's key is the row's
pub key_table : (r : Row) → (row_key r).0 ≡ table_of r
key_table (row.Link t from to) = edge_table (key_columns t) t from to
key_table r = refl

-- the rows are one part of a graph, in order
pub record IsPart (n : ℕ) (rows : List Row) : Type 0 where
  pub own : All (λ r. part r ≡ n) rows
  pub rises : IsStrictlySortedBy row_order rows
