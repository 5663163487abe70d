use Rattle.std.proofs.Common.{map}
use Rattle.std.specs.Map.Iter.{deref}
use Rattle.std.specs.Option.{option_copied}
use Rattle.snb_graph_maps.specs.Ahead.{IsLeast, is_above}
use Rattle.snb_graph_maps.proofs.pending.least_in.Given as goal

-- the least of the keys so far
abbrev pub invariant-loop-key : goal.invariant-loop-key
invariant-loop-key g l = IsLeast g.K.Ord.cmp (is_above g.K.Ord.cmp (option_copied l.low)) (map deref l.yielded) (option_copied l.least)
