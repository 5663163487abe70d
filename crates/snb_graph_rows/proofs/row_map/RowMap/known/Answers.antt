use Rattle.snb_graph_rows.proofs.Entries.{frozen_among, part_whole}
use Rattle.snb_graph_rows.proofs.row_map.RowMap.known.Goals as goal

pub returns-clause-part : goal.returns-clause-part
returns-clause-part g c = rw (← c.self.view_is) (part_whole g.K.Ord.cmp g.met.K.Ord.total g.met.K.Apart.same_key g.V.Kept.part (g.K.Key.name g.V.Kept.table) g.V.Kept.as_row (g.met.K.Key.ordered g.V.Kept.table) _ c.self.invariant)

pub returns-clause-among : goal.returns-clause-among
returns-clause-among g c = rw (← c.self.view_is) (frozen_among g.K.Ord.cmp g.met.K.Ord.total g.met.K.Apart.same_key g.V.Kept.part (g.K.Key.name g.V.Kept.table) g.V.Kept.as_row (g.met.K.Key.ordered g.V.Kept.table) _ _ c.known.ensures.parts)
