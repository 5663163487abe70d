use Rattle.std.proofs.Common.{Some}
use Rattle.snb_graph_maps.proofs.PendingLemmas.{pending_more, puts_alike}
use Rattle.snb_graph_maps.proofs.pending.Pending.insert.Goals as goal

pub returns-clause-ok : goal.returns-clause-ok
returns-clause-ok g c = rw (← c.self.view_is) (pending_more g.K.Ord.cmp g.met.K.Ord.total g.met.K.Apart.same_key c.self.inside.map.entries c.insert.new.self.entries c.args.key c.args.value (puts_alike g.K.Ord.cmp g.met.K.Ord.total g.met.K.Apart.same_key g.K.PartialEq.eq g.met.K.Ord.matches_eq c.self.inside.map.entries c.insert.new.self.entries c.args.key (Some c.args.value) c.in_ok-insert.ensures.updates.0))
