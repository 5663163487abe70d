use Rattle.std.proofs.Common.{◌↔◌}
use Rattle.std.specs.List.{Contains}
use Rattle.snb_graph_tables.proofs.tables.same.has_text.Given as goal

-- the text is among the words exactly where it is among those that are left
abbrev pub invariant-loop-word : goal.invariant-loop-word
invariant-loop-word l = Contains l.initial.word-iterator l.fn.text ↔ Contains l.word-iterator l.fn.text
