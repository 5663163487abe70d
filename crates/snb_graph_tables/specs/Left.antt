-- What a walk over a table has still to give.
use Rattle.std.specs.Prelude.{List}
use Rattle.snb_schema.specs.declared.row.Row.{Row}
use Rattle.snb_graph_tables.specs.declared.each.Left.{Left}
use Rattle.snb_graph_tables.specs.declared.each.Left.TheVariants as left

-- the rows that are left
abbrev pub left_rows : Left → List Row
left_rows (left.Place rows) = rows
left_rows (left.TagClass rows) = rows
left_rows (left.Tag rows) = rows
left_rows (left.Organisation rows) = rows
left_rows (left.Person rows) = rows
left_rows (left.Forum rows) = rows
left_rows (left.Post rows) = rows
left_rows (left.Comment rows) = rows
left_rows (left.Edges rows) = rows
left_rows (left.Words rows) = rows
