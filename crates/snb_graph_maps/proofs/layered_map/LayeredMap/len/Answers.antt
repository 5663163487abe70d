use Rattle.std.proofs.Common.{sym}
use Rattle.snb_graph_maps.proofs.MergedLemmas.{length-merged}
use Rattle.snb_graph_maps.proofs.layered_map.LayeredMap.len.Goals as goal

pub returns-clause-count : goal.returns-clause-count
returns-clause-count g c = rw (c.len.ensures, c.frozen.ensures.lent, c.len-2.ensures, ← c.self.view_is) (sym (length-merged g.K.Ord.cmp g.met.K.Ord.total _ _ c.self.invariant.parts))
