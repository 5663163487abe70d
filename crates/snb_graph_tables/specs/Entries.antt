-- Rows as the maps keep them, and their names.
use Rattle.std.specs.Prelude.{◌≡◌, ℕ}
use Rattle.snb_schema.specs.declared.row.Row.{Row}
use Rattle.snb_schema.specs.declared.row.Row.TheVariants as row
use Rattle.snb_schema.specs.Layouts.{shape}
use Rattle.snb_schema.specs.RowKeys.{RowKey, node_key, row_key}
use Rattle.snb_schema.specs.TableRows.{IsTableRow}
use Rattle.snb_graph_model.specs.Graphs.{part_of}
use Rattle.snb_graph_rows.specs.Edges.{edge_row}
use Rattle.snb_graph_rows.specs.KeysApart.{edge_name, word_name}
use Rattle.snb_graph_tables.specs.declared.entry.Entry.{Entry}
use Rattle.snb_graph_tables.specs.declared.entry.Entry.TheVariants as entry
use Rattle.snb_graph_tables.specs.declared.entry.RowName.{RowName}
use Rattle.snb_graph_tables.specs.declared.entry.RowName.TheVariants as names

-- the row that is kept
abbrev pub row_of : Entry → Row
row_of (entry.Place x) = row.Place x
row_of (entry.TagClass x) = row.TagClass x
row_of (entry.Tag x) = row.Tag x
row_of (entry.Organisation x) = row.Organisation x
row_of (entry.Person x) = row.Person x
row_of (entry.Forum x) = row.Forum x
row_of (entry.Post x) = row.Post x
row_of (entry.Comment x) = row.Comment x
row_of (entry.Edge k n) = edge_row (edge_name k) n
row_of (entry.Word k) = row.Word k.table k.person k.text

-- the key under which it is kept
abbrev pub entry_key : Entry → RowKey
entry_key (entry.Edge k n) = edge_name k
entry_key e = row_key (row_of e)

-- the part in which it is kept
abbrev pub entry_part : Entry → ℕ
entry_part (entry.Place x) = 0
entry_part (entry.TagClass x) = 1
entry_part (entry.Tag x) = 2
entry_part (entry.Organisation x) = 3
entry_part (entry.Person x) = 4
entry_part (entry.Forum x) = 5
entry_part (entry.Post x) = 6
entry_part (entry.Comment x) = 7
entry_part (entry.Edge k n) = 8
entry_part (entry.Word k) = 9

-- the row is one that its table can have, and is kept under its key in its part
pub record IsEntry (e : Entry) : Type 0 where
  pub shaped : IsTableRow (row_of e)
  pub keyed : row_key (row_of e) ≡ entry_key e
  pub stands : part_of (shape (entry_key e).0) ≡ entry_part e

-- an edge or a word
abbrev pub IsNoNode : Entry → Type 0
IsNoNode (entry.Edge k n) = Unit {0}
IsNoNode (entry.Word k) = Unit {0}
IsNoNode _ = ⊥

-- the key that a name says
abbrev pub name_key : RowName → RowKey
name_key (names.Node kind id) = node_key kind id
name_key (names.Edge k) = edge_name k
name_key (names.Word k) = word_name k

-- the tables of a name's rows are in the part that it says
abbrev pub IsName : RowName → Type 0
IsName (names.Node kind id) = Unit {0}
IsName (names.Edge k) = part_of (shape k.table) ≡ 8
IsName (names.Word k) = part_of (shape k.table) ≡ 9
