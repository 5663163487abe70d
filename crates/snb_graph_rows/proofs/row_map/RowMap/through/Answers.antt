use Rattle.snb_graph_rows.specs.Rows.{is_up_to_end}
use Rattle.snb_graph_rows.proofs.Entries.{rows_within}
use Rattle.snb_graph_rows.proofs.row_map.RowMap.through.Goals as goal

pub returns-clause-rows : goal.returns-clause-rows
returns-clause-rows g c = rw (c.through.ensures.within, ← c.self.view_is) (rows_within g.K.Ord.cmp g.met.K.Ord.total g.met.K.Apart.same_key g.V.Kept.part (g.K.Key.name g.V.Kept.table) g.V.Kept.as_row (g.met.K.Key.ordered g.V.Kept.table) is_up_to_end c.args.from c.args.last _ c.self.invariant)
