use Rattle.std.proofs.Common.{[], ◌∙◌, ap}
use Rattle.snb_graph_maps.specs.Merged.{merged}
use Rattle.snb_graph_maps.proofs.pending.Pending.take_sorted.Goals as goal

pub returns-clause-ok : goal.returns-clause-ok
returns-clause-ok g c = rw (← c.self.view_is) (c.in_order.ensures ∙ ap (λ m. merged g.K.Ord.cmp [] m.entries) c.replace-map.ensures.value)
