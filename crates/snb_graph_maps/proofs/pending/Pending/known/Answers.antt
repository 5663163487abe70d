use Rattle.snb_graph_maps.proofs.PendingLemmas.{rises_pending}
use Rattle.snb_graph_maps.proofs.pending.Pending.known.Goals as goal

pub returns : goal.returns
returns g c = rw (← c.self.view_is) (rises_pending g.K.Ord.cmp g.met.K.Ord.total g.met.K.Apart.same_key c.self.inside.map.entries)
