use Rattle.std.proofs.Common.{◌∙◌}
use Rattle.snb_graph_maps.proofs.PartLemmas.{filter_all}
use Rattle.snb_graph_maps.proofs.added.Added.all.Goals as goal

pub returns-in-None : goal.returns-in-None
returns-in-None g c = rw (← c.self.view_is, c.in-None.is) (c.range-in-None.ensures.between tt ∙ filter_all c.self.inside.map.entries)
