-- The text of a graph, with a section for each of the 33 tables.
use Rattle.std.specs.Prelude.{ℕ, List, [], ◌∷◌, ◌++◌, codes}
use Rattle.std.specs.Fmt.{decimal}
use Rattle.std.specs.List.{flat_map}
use Rattle.snb_schema.specs.declared.row.Row.{Row}
use Rattle.snb_schema.specs.declared.table.Table.{Table}
use Rattle.snb_schema.specs.FileNames.{table_text}
use Rattle.snb_schema.specs.RowLines.{canonical}
use Rattle.snb_schema.specs.TableOrder.{all_tables}
use Rattle.snb_graph_model.specs.Graphs.{count, rows}

-- a row's line: its canonical line and a line end
abbrev pub row_line : Row → List ℕ
row_line r = canonical r ++ 10 ∷ []

-- a table's section: the line `table|count`, and the lines of its rows in the order of their keys
abbrev pub section : List Row → Table → List ℕ
section g t = table_text t ++ 124 ∷ decimal (count g t) ++ 10 ∷ flat_map row_line (rows g t)

-- the whole text: the line `final|1`, and the sections of all tables in order
unfoldable pub final_text : List Row → List ℕ
final_text g = codes "final|1\n" ++ flat_map (section g) all_tables
