use Rattle.std.proofs.Common.{sym, ◌∙◌}
use Rattle.std.specs.Map.{keys_of}
use Rattle.snb_graph_maps.proofs.PendingLemmas.{distinct_alike, length_pending}
use Rattle.snb_graph_maps.proofs.pending.Pending.len.Goals as goal

pub returns : goal.returns
returns g c = rw (← c.self.view_is) (c.len.ensures.len ∙ sym (length_pending g.K.Ord.cmp g.met.K.Ord.total g.met.K.Apart.same_key c.self.inside.map.entries (distinct_alike g.K.Ord.cmp g.K.PartialEq.eq g.met.K.Ord.matches_eq (keys_of c.self.inside.map.entries) c.len.ensures.unique)))
