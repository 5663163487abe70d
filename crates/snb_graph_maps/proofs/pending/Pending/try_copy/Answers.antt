use Rattle.std.proofs.Common.{[], ap}
use Rattle.std.proofs.lemmas.Map.Entries.{entries_from_clone}
use Rattle.snb_graph_maps.specs.Merged.{merged}
use Rattle.snb_graph_maps.proofs.pending.Pending.try_copy.Goals as goal

pub returns : goal.returns
returns g c = rw (← c.self.view_is) (ap (merged g.K.Ord.cmp []) (entries_from_clone _ _ g.met.K.Apart.same_clone c.requires _ _ c.in_ok-clone.ensures.cases))
