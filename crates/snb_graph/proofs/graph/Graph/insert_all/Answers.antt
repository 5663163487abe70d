use Rattle.std.proofs.Common.{sym, subst}
use Rattle.snb_graph.specs.Additions.{HoldsAll}
use Rattle.snb_graph.proofs.graph.Graph.insert_all.Goals as goal

pub take_all-requires-clause-some : goal.take_all-requires-clause-some
take_all-requires-clause-some c = (c.self.inside.tables.rows, c.known.ensures, c.insert_each.ensures.lead, subst (HoldsAll c.self.inside.tables.rows) (sym c.insert_each.ensures.frozen) c.shared.ensures)

pub returns-in-Err-clause-err : goal.returns-in-Err-clause-err
returns-in-Err-clause-err c = rw (← c.self.view_is) (c.take_all.ensures.back c.self.inside.tables.rows c.known.ensures c.insert_each.ensures.lead)
