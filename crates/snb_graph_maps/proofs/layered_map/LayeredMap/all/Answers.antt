use Rattle.std.proofs.Common.{◌∙◌, refl}
use Rattle.snb_graph_maps.proofs.layered_map.LayeredMap.all.Goals as goal

pub over-requires : goal.over-requires
over-requires g c = rw (rw (← c.self.view_is) at c.frozen.ensures.lent, c.all.ensures) c.self.invariant.parts

pub returns : goal.returns
returns g c = rw (← c.self.view_is) (c.over.ensures ∙ rw (rw (← c.self.view_is) at c.frozen.ensures.lent, c.all.ensures) refl)
