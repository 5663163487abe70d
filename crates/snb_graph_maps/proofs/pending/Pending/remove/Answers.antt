use Rattle.std.proofs.Common.{None}
use Rattle.snb_graph_maps.proofs.PendingLemmas.{pending_fewer, puts_alike}
use Rattle.snb_graph_maps.proofs.pending.Pending.remove.Goals as goal

pub returns : goal.returns
returns g c = rw (← c.self.view_is) (pending_fewer g.K.Ord.cmp g.met.K.Ord.total g.met.K.Apart.same_key c.self.inside.map.entries c.remove.new.self.entries c.args.key.now (puts_alike g.K.Ord.cmp g.met.K.Ord.total g.met.K.Apart.same_key g.K.PartialEq.eq g.met.K.Ord.matches_eq c.self.inside.map.entries c.remove.new.self.entries c.args.key.now None c.remove.ensures.updates.0))
