use Rattle.std.proofs.Common.{ap}
use Rattle.std.specs.Ordering.{nat_cmp}
use Rattle.snb_graph_maps.specs.Merged.{merged}
use Rattle.snb_graph_links.specs.Pairs.{Lists, frozen_lists, lists_of, pairs_at}
use Rattle.snb_graph_links.proofs.HasLemmas.{has_added, no_pair}
use Rattle.snb_graph_links.proofs.PairLemmas.{none_parts, parts_after, adds_pair}
use Rattle.snb_graph_links.proofs.adjacency_map.AdjacencyMap.add.Goals as goal
use Rattle.std.proofs.lemmas.Result.{on_err_weaker, on_ok_weaker}

pub put-requires-clause-absent : goal.put-requires-clause-absent
put-requires-clause-absent c = (none_parts _ _ c.args.id (no_pair _ c.args.of c.args.id (rw (← c.self.view_is) at c.requires))).0

pub invariant_of-self : goal.invariant_of-self
invariant_of-self c =
    parts_after c.put.result (frozen_lists c.self.inside.frozen) (lists_of c.self.inside.added.entries) _ c.args.of c.args.id c.args.date c.self.invariant (no_pair _ c.args.of c.args.id (rw (← c.self.view_is) at c.requires)) c.put.ensures.ok c.put.ensures.err

pub returns-clause-ok : goal.returns-clause-ok
returns-clause-ok c =
    let old : Lists × Lists = (frozen_lists c.self.inside.frozen, lists_of c.self.inside.added.entries) in
    let new : Lists × Lists = (frozen_lists c.self.inside.frozen, lists_of c.put.new.map.entries) in
    rw (← c.self.view_is) (on_ok_weaker c.put.result (λ puts. has_added old new c.args.of c.args.id c.args.date (no_pair old c.args.of c.args.id (rw (← c.self.view_is) at c.requires)) (adds_pair old.0 old.1 new.1 c.args.of c.args.id c.args.date c.self.invariant puts)) c.put.ensures.ok)

pub returns-clause-err : goal.returns-clause-err
returns-clause-err c = rw (← c.self.view_is) (on_err_weaker c.put.result (λ same q. ap (merged nat_cmp (pairs_at (frozen_lists c.self.inside.frozen) q)) (same q)) c.put.ensures.err)
