use Rattle.snb_graph_maps.proofs.PartLemmas.{stored_none}
use Rattle.snb_graph_maps.proofs.layered_map.LayeredMap.empty.Goals as goal

pub invariant_of-result : goal.invariant_of-result
invariant_of-result g c = stored_none g.K.Ord.cmp g.met.K.Ord.total g.met.K.Apart.same_key c.empty.result c.empty.ensures
