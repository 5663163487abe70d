-- The text so far has the sections of the tables so far.
use Rattle.std.proofs.Common.{◌≡◌, ◌++◌, codes, take}
use Rattle.std.specs.List.{flat_map}
use Rattle.snb_graph_model.specs.FinalText.{section}
use Rattle.snb_tool_texts.proofs.final_text.final_lines.Given as goal

abbrev pub invariant-loop-table : goal.invariant-loop-table
invariant-loop-table l = l.text.items ≡ codes "final|1\n" ++ flat_map (section l.graph) (take l.table-index l.table-items)
