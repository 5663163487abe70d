use Rattle.std.proofs.Common.{◌≡◌, ◌≤◌, ◌+◌, ◌++◌, length, vec_capacity, vec_len}
use Rattle.std.specs.Map.{values_of}
use Rattle.snb_graph_maps.proofs.pending.move_all.Given as goal

-- what was moved, and what is left
abbrev pub invariant-loop-value : goal.invariant-loop-value
invariant-loop-value g l = record {
  values : l.values.items ++ values_of l.value-iterator ≡ values_of l.fn.map.entries;
  room : vec_len l.values + length l.value-iterator ≤ vec_capacity l.values;
}
