use Rattle.std.proofs.Common.{◌≡◌, ◌++◌, map, suc, take}
use Rattle.std.specs.List.{join_with_byte}
use Rattle.snb_schema.specs.Columns.{canonical_field}
use Rattle.snb_input_fields.specs.Cells.{value_of}
use Rattle.snb_input_fields.proofs.write.put_cells.Given as goal

-- the first field is written, and those before this one
abbrev pub invariant-loop-cell : goal.invariant-loop-cell
invariant-loop-cell l = l.to.items ≡ l.fn.to.items ++ join_with_byte 124 (map canonical_field (map value_of (take (suc l.cell-index) l.cells)))
