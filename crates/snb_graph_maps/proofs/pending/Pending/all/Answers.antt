use Rattle.std.specs.Option.{option_copied}
use Rattle.snb_graph_maps.proofs.PendingLemmas.{ahead_all, within_all}
use Rattle.snb_graph_maps.proofs.pending.Pending.all.Goals as goal

pub invariant_of-result : goal.invariant_of-result
invariant_of-result g c = within_all g.K.Ord.cmp g.met.K.Ord.total g.met.K.Apart.same_key c.self.inside.map.entries (option_copied c.least-next.result) c.least-next.ensures.held

pub returns : goal.returns
returns g c = rw (← c.self.view_is) (ahead_all g.K.Ord.cmp g.met.K.Ord.total g.met.K.Apart.same_key c.self.inside.map.entries (option_copied c.least-next.result) c.least-next.ensures)
