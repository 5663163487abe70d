use Rattle.snb_graph_maps.specs.Merged.{entries_of}
use Rattle.snb_graph_maps.proofs.PartLemmas.{merged-remove, stored_fewer}
use Rattle.snb_graph_maps.proofs.layered_map.LayeredMap.take_back.Goals as goal

pub invariant_of-self : goal.invariant_of-self
invariant_of-self g c = stored_fewer g.K.Ord.cmp g.met.K.Ord.total g.met.K.Apart.same_key (entries_of c.self.inside.frozen) c.self.inside.added c.remove.new.self c.args.key.now c.self.invariant c.remove.ensures

pub returns-clause-gone : goal.returns-clause-gone
returns-clause-gone g c = rw (c.remove.ensures, ← c.self.view_is) (merged-remove g.K.Ord.cmp g.met.K.Ord.total g.met.K.Apart.same_key (entries_of c.self.inside.frozen) c.self.inside.added c.args.key.now c.self.invariant.parts.frozen_rises c.self.invariant.parts.added_rises (rw (← c.self.view_is) at c.requires))
