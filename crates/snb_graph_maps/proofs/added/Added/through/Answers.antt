use Rattle.snb_graph_maps.proofs.added.Added.through.Goals as goal

pub returns-in-None : goal.returns-in-None
returns-in-None g c = rw (← c.self.view_is, c.in-None.is) (rw (c.new-in-None.ensures.start, c.new-in-None.ensures.end) at (c.range-in-None.ensures.between c.new-in-None.ensures.exhausted))
