use Rattle.snb_graph_maps.specs.Merged.{entries_of}
use Rattle.snb_graph_maps.proofs.PartLemmas.{stored_all}
use Rattle.snb_graph_maps.proofs.layered_map.LayeredMap.freeze.Goals as goal

pub invariant_of-self : goal.invariant_of-self
invariant_of-self g c = rw (c.hint.ensures, c.in_ok-all.ensures.ok, c.empty.ensures, ← c.self.view_is) (stored_all g.K.Ord.cmp g.met.K.Ord.total g.met.K.Apart.same_key (entries_of c.self.inside.frozen) c.self.inside.added c.self.invariant)
