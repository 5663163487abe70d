use Rattle.std.proofs.Common.{◌≡◌, ◌++◌}
use Rattle.std.specs.Ordering.{nat_cmp}
use Rattle.snb_graph_maps.specs.Merged.{merged}
use Rattle.snb_graph_links.specs.Pairs.{rest}
use Rattle.snb_graph_links.proofs.adjacency_map.collected.Given as goal

-- the pairs so far, and those that are left
abbrev pub invariant-loop-pair : goal.invariant-loop-pair
invariant-loop-pair l = l.all.items ++ rest l.pair-iterator ≡ merged nat_cmp l.frozen l.added
