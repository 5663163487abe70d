use Rattle.std.proofs.Common.{sym, ◌∙◌}
use Rattle.snb_graph_maps.proofs.PendingLemmas.{told_alike, value_pending}
use Rattle.snb_graph_maps.proofs.pending.Pending.get.Goals as goal

pub returns : goal.returns
returns g c = rw (← c.self.view_is) (c.get.ensures.value ∙ told_alike g.K.Ord.cmp g.met.K.Ord.total g.met.K.Apart.same_key g.K.PartialEq.eq g.met.K.Ord.matches_eq c.self.inside.map.entries c.args.key.now ∙ sym (value_pending g.K.Ord.cmp g.met.K.Ord.total g.met.K.Apart.same_key c.self.inside.map.entries c.args.key.now))
