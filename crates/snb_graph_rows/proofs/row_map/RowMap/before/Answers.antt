use Rattle.snb_graph_rows.specs.Rows.{is_before_end}
use Rattle.snb_graph_rows.proofs.Entries.{rows_within}
use Rattle.snb_graph_rows.proofs.row_map.RowMap.before.Goals as goal

pub returns-clause-rows : goal.returns-clause-rows
returns-clause-rows g c = rw (c.range.ensures.within, ← c.self.view_is) (rows_within g.K.Ord.cmp g.met.K.Ord.total g.met.K.Apart.same_key g.V.Kept.part (g.K.Key.name g.V.Kept.table) g.V.Kept.as_row (g.met.K.Key.ordered g.V.Kept.table) is_before_end c.args.from c.args.end _ c.self.invariant)
