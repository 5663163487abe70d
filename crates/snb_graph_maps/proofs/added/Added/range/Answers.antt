use Rattle.snb_graph_maps.proofs.added.Added.range.Goals as goal

pub returns-in-None : goal.returns-in-None
returns-in-None g c = rw (← c.self.view_is, c.in-None.is) (c.range-in-None.ensures.between tt)
