use Rattle.snb_graph_rows.proofs.Entries.{frozen_among}
use Rattle.snb_graph_rows.proofs.row_map.RowMap.freeze.Goals as goal

pub freeze-requires : goal.freeze-requires
freeze-requires g c = g.met.V.Exact.same_clone

pub returns-clause-more : goal.returns-clause-more
returns-clause-more g c = rw (c.in_ok-freeze.ensures.ok, ← c.self.view_is) (frozen_among g.K.Ord.cmp g.met.K.Ord.total g.met.K.Apart.same_key g.V.Kept.part (g.K.Key.name g.V.Kept.table) g.V.Kept.as_row (g.met.K.Key.ordered g.V.Kept.table) _ _ c.known.ensures.parts)

pub returns-in_err-freeze-clause-more : goal.returns-in_err-freeze-clause-more
returns-in_err-freeze-clause-more g c = rw (c.in_err-freeze.ensures.err, ← c.self.view_is) (λ r h. h)
