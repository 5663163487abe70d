use Rattle.std.proofs.Common.{◌≡◌, ◌∙◌, sym, ap, ℕ}
use Rattle.std.specs.Ordering.{nat_cmp}
use Rattle.std.specs.Cmp.{nat_cmp_total}
use Rattle.std.proofs.lemmas.Map.Lookups.{exact_unsigned}
use Rattle.snb_graph_links.specs.Pairs.{Lists, frozen_lists, lists_of, pairs_at, pairs_of}
use Rattle.snb_graph_links.proofs.HasLemmas.{pairs_rise}
use Rattle.snb_graph_links.proofs.adjacency_map.AdjacencyMap.freeze.Goals as goal
use Rattle.snb_graph_links.proofs.adjacency_map.AdjacencyMap.freeze.Goals.{in-Some+in_ok-whole-in-Some+in_ok-runs-in-Some, in-None+in_ok-runs-in-None}
use Rattle.snb_graph_maps.proofs.Laws.{merged-nil, parts-all}

-- the runs have all pairs
whole : (c : goal.After-drop-self-inside-2) (q : ℕ) → pairs_at c.match-self.runs q ≡ pairs_of (frozen_lists c.self.inside.frozen, lists_of c.self.inside.added.entries) q
whole c q = elim c.match-self.branch [
  | in-Some+in_ok-whole-in-Some+in_ok-runs-in-Some w ↦
      rw (w.runs-is, w.in-Some.is) (ap (λ (ls : Lists). pairs_at ls q) w.in_ok-runs-in-Some.ensures ∙ w.in_ok-whole-in-Some.ensures q ∙ ap (λ (ls : Lists). pairs_of (ls, lists_of c.self.inside.added.entries) q) w.deref.ensures)
  | in-None+in_ok-runs-in-None w ↦
      rw (w.runs-is, w.in-None.is) (ap (λ (ls : Lists). pairs_at ls q) w.in_ok-runs-in-None.ensures ∙ sym (merged-nil nat_cmp nat_cmp_total exact_unsigned (pairs_at (lists_of c.self.inside.added.entries) q) (c.self.invariant q).added_rises))
]

pub invariant_of-self : goal.invariant_of-self
invariant_of-self c q =
    rw (c.new-2.ensures.empty, c.in_ok-new.ensures.ok, whole c q)
    (parts-all nat_cmp nat_cmp_total exact_unsigned _ (pairs_rise (frozen_lists c.self.inside.frozen, lists_of c.self.inside.added.entries) c.self.invariant q))

pub returns-clause-same : goal.returns-clause-same
returns-clause-same c q = rw (c.new-2.ensures.empty, c.in_ok-new.ensures.ok, ← c.self.view_is) (whole c q)

pub returns-clause-ok : goal.returns-clause-ok
returns-clause-ok c q = rw (c.in_ok-new.ensures.ok, ← c.self.view_is) (whole c q)
