-- What is collected, and what is left, are all pairs.
use Rattle.std.proofs.Common.{◌≡◌, ◌++◌}
use Rattle.snb_graph_links.specs.Pairs.{rest}
use Rattle.snb_read_lookups.proofs.lookups.collected.Given as goal

abbrev pub invariant-loop-pair : goal.invariant-loop-pair
invariant-loop-pair l = l.pairs.items ++ rest l.pair-iterator ≡ rest l.fn.links
