use Rattle.std.proofs.Common.{◌≡◌, ◌++◌}
use Rattle.snb_graph_maps.proofs.layered_map.cloned.Given as goal

-- the entries so far, and those that are left
abbrev pub invariant-loop-key : goal.invariant-loop-key
invariant-loop-key g l = l.all ++ l.key-iterator ≡ l.fn.walk
