-- The lines so far, and those of the rows that are left, are all.
use Rattle.std.proofs.Common.{◌≡◌, ◌++◌}
use Rattle.std.specs.List.{flat_map}
use Rattle.snb_graph_model.specs.FinalText.{row_line}
use Rattle.snb_graph_model.specs.Graphs.{rows}
use Rattle.snb_tool_texts.proofs.final_text.put_rows.Given as goal

abbrev pub invariant-loop-row : goal.invariant-loop-row
invariant-loop-row l = l.to.items ++ flat_map row_line l.row-iterator ≡ l.fn.to.items ++ flat_map row_line (rows l.graph l.fn.table)
