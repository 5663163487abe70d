-- Nodes that are read from the first field of a line on.
use Rattle.std.proofs.Common.{◌≡◌, ℕ, List, subst}
use Rattle.snb_schema.specs.declared.layout.Shape.{Shape}
use Rattle.snb_schema.specs.declared.row.Row.{Row}
use Rattle.snb_schema.specs.declared.table.Table.{Table}
use Rattle.snb_schema.specs.RowValues.{row_shape, table_of, values}
use Rattle.snb_schema.specs.TableColumns.{shape_columns}
use Rattle.snb_input_fields.specs.Fields.{ReadsAll}
use Rattle.snb_input_fields.specs.Reading.{Reading, SpellsFrom, at_first, line_meaning}
use Rattle.snb_input_fields.proofs.Laws.{reads_spell}
use Rattle.snb_csv.specs.Make.{IsMadeOf, table_by}

-- the row whose values are read
pub made : (s : Shape) (t : Table) (fs : List (List ℕ)) (r q : Reading) (row : Row) → r ≡ at_first (shape_columns s) fs → table_of row ≡ table_by s t → row_shape row ≡ s → ReadsAll line_meaning r (shape_columns s) (values row) q → IsMadeOf s t fs row
made s t fs r q row is table shaped reads = record {
  table = table;
  shaped = shaped;
  spelled = subst (λ (x : Reading). SpellsFrom x.read (shape_columns s) x.fields (values row)) is (reads_spell (shape_columns s) (values row) r q reads);
}
