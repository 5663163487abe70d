use Rattle.std.proofs.Common.{◌≡◌, refl}
use Rattle.std.proofs.lemmas.Map.Entries.{entries_from_clone}
use Rattle.snb_graph_links.specs.Pairs.{frozen_lists, lists_of}
use Rattle.snb_graph_links.proofs.PairLemmas.{lists_from_clone}
use Rattle.snb_graph_links.proofs.adjacency_map.AdjacencyMap.try_copy.Goals as goal
use Rattle.snb_graph_links.proofs.adjacency_map.AdjacencyMap.try_copy.Goals.{in-Some+in_ok-try_clone-in-Some, in-None}

same_frozen : (c : goal.In_ok-clone) → frozen_lists c.match-self.frozen ≡ frozen_lists c.self.inside.frozen
same_frozen c = elim c.match-self.branch [
  | in-Some+in_ok-try_clone-in-Some w ↦ rw (w.frozen-is, w.in-Some.is) w.in_ok-try_clone-in-Some.ensures
  | in-None w ↦ rw (w.frozen-is, w.in-None.is) refl
]

same_added : (c : goal.In_ok-clone) → lists_of c.in_ok-clone.field-0.entries ≡ lists_of c.self.inside.added.entries
same_added c = lists_from_clone _ _ (λ x y e. e) (λ v w d. entries_from_clone (λ x y. y ≡ x) (λ x y. y ≡ x) (λ x y e. e) (λ x y e. e) v.items w.items d.0) _ _ c.in_ok-clone.ensures.cases

pub invariant_of-result : goal.invariant_of-result
invariant_of-result c = rw (same_frozen c, same_added c) c.self.invariant

pub returns : goal.returns
returns c = rw (same_frozen c, same_added c) c.self.view_is
