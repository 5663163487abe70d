use Rattle.std.proofs.Common.{refl}
use Rattle.snb_graph_links.specs.Pairs.{Lists, frozen_lists, lists_of}
use Rattle.snb_graph_links.proofs.HasLemmas.{has_dropped, no_frozen_pair}
use Rattle.snb_graph_links.proofs.PairLemmas.{parts_taken}
use Rattle.snb_graph_links.proofs.adjacency_map.AdjacencyMap.drop_pair.Goals as goal

pub invariant_of-self : goal.invariant_of-self
invariant_of-self c = parts_taken (frozen_lists c.self.inside.frozen) (lists_of c.self.inside.added.entries) _ c.args.of c.args.id c.self.invariant c.take.ensures

pub returns-clause-gone : goal.returns-clause-gone
returns-clause-gone c =
    let old : Lists × Lists = (frozen_lists c.self.inside.frozen, lists_of c.self.inside.added.entries) in
    let new : Lists × Lists = (frozen_lists c.self.inside.frozen, lists_of c.take.new.map.entries) in
    rw (← c.self.view_is) (has_dropped old new c.args.of c.args.id c.self.invariant (no_frozen_pair old c.args.of c.args.id (rw (← c.self.view_is) at c.requires)) refl c.take.ensures)
