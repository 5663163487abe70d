-- The lines of the steps so far, and those of the others after them.
use Rattle.std.proofs.Common.{◌≡◌, ◌++◌, drop}
use Rattle.std.specs.List.{flat_map}
use Rattle.snb_tool_outcome.specs.WalkTexts.{step_line}
use Rattle.snb_tool_dataset.proofs.walk_command.walk_lines.Given as goal

abbrev pub invariant-loop-step : goal.invariant-loop-step
invariant-loop-step l = l.text.items ++ flat_map step_line (drop l.step-index l.step-items) ≡ l.initial.text.items ++ flat_map step_line l.step-items
