use Rattle.std.proofs.Common.{subst}
use Rattle.snb_graph_maps.specs.Merged.{Rises, entries_of}
use Rattle.snb_graph_maps.proofs.layered_map.LayeredMap.since.Goals as goal

pub since-requires : goal.since-requires
since-requires g c = rw c.deref.ensures (subst (λ o. Rises g.K.Ord.cmp (entries_of o)) c.in-Some.is c.self.invariant.parts.frozen_rises)

pub returns-in-Some : goal.returns-in-Some
returns-in-Some g c = rw (← c.self.view_is, c.in-Some.is) (rw c.deref.ensures at c.since.ensures)
