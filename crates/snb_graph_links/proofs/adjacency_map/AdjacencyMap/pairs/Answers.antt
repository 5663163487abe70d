use Rattle.std.proofs.Common.{◌≡◌, refl}
use Rattle.snb_graph_links.specs.Pairs.{frozen_lists, lists_of, pairs_at, rest}
use Rattle.snb_graph_links.proofs.HasLemmas.{are_pairs_of}
use Rattle.snb_graph_links.proofs.adjacency_map.AdjacencyMap.pairs.Goals as goal
use Rattle.snb_graph_links.proofs.adjacency_map.AdjacencyMap.pairs.Goals.{in-Some, in-None}

same_frozen : (c : goal.After-slice_at) → c.match-self.frozen.now ≡ pairs_at (frozen_lists c.self.inside.frozen) c.args.of
same_frozen c = elim c.match-self.branch [
  | in-Some w ↦ rw (w.frozen-is, w.in-Some.is, w.at-frozen.ensures, w.deref.ensures) refl
  | in-None w ↦ rw (w.frozen-is, w.in-None.is) refl
]

same_frozen_after : (c : goal.After-over) → c.match-self.frozen.now ≡ pairs_at (frozen_lists c.self.inside.frozen) c.args.of
same_frozen_after c = elim c.match-self.branch [
  | in-Some w ↦ rw (w.frozen-is, w.in-Some.is, w.at-frozen.ensures, w.deref.ensures) refl
  | in-None w ↦ rw (w.frozen-is, w.in-None.is) refl
]

pub over-requires : goal.over-requires
over-requires c = rw (same_frozen c, c.slice_at.ensures) (c.self.invariant c.args.of)

pub returns : goal.returns
returns c = rw (← c.self.view_is) (are_pairs_of (frozen_lists c.self.inside.frozen, lists_of c.self.inside.added.entries) c.args.of (rest c.over.result) c.self.invariant (rw (c.over.ensures, same_frozen_after c, c.slice_at.ensures) refl))
