use Rattle.std.specs.Ordering.{nat_cmp}
use Rattle.std.specs.Cmp.{nat_cmp_total}
use Rattle.std.proofs.lemmas.List.Filters.{dedup_is}
use Rattle.std.proofs.lemmas.Map.Lookups.{exact_unsigned}
use Rattle.snb_graph_links.proofs.LinkRunLemmas.{in_order, kept_links, of_number_has, of_number_rises, same_link}
use Rattle.snb_graph_links.proofs.adjacency_map.AdjacencyMap.of.Goals as goal
use Rattle.snb_graph_maps.proofs.Laws.{parts-all}

pub of_links-requires : goal.of_links-requires
of_links-requires c = rw c.as_slice.ensures.value (in_order c.args.links.items c.sort.new.self.items c.dedup.new.self.items c.requires c.in_ok-sort.ensures.permutation c.in_ok-sort.ensures.sorted (dedup_is same_link _ _ c.dedup.ensures.filtered))

pub invariant_of-result : goal.invariant_of-result
invariant_of-result c q =
    let sorted = in_order c.args.links.items c.sort.new.self.items c.dedup.new.self.items c.requires c.in_ok-sort.ensures.permutation c.in_ok-sort.ensures.sorted (dedup_is same_link _ _ c.dedup.ensures.filtered) in
    rw (c.new-2.ensures.empty, c.in_ok-new.ensures.ok, c.in_ok-runs.ensures q, c.as_slice.ensures.value)
    (parts-all nat_cmp nat_cmp_total exact_unsigned _ (of_number_rises q c.dedup.new.self.items sorted))

pub returns : goal.returns
returns c of id date =
    let kept = kept_links c.args.links.items c.sort.new.self.items c.dedup.new.self.items c.in_ok-sort.ensures.permutation (dedup_is same_link _ _ c.dedup.ensures.filtered) (of, (id, date)) in
    let has = of_number_has of c.dedup.new.self.items (id, date) in
    rw (c.new-2.ensures.empty, c.in_ok-new.ensures.ok, c.in_ok-runs.ensures of, c.as_slice.ensures.value)
    (λ x. kept.0 (has.0 x), λ x. has.1 (kept.1 x))
