use Rattle.std.proofs.Common.{◌≡◌, ◌≤◌, length, true}
use Rattle.std.specs.List.{AllWithin}
use Rattle.snb_graph_maps.specs.Parted.{falls}
use Rattle.snb_graph_maps.proofs.search.end.Given as goal

-- the keys so far pass
abbrev pub invariant-loop-at : goal.invariant-loop-at
invariant-loop-at g l = record {
  bound : l.at ≤ length l.keys;
  low : AllWithin (λ k. falls l.also (g.K.Ord.cmp k l.key) ≡ true) l.keys 0 l.at;
}
