use Rattle.std.proofs.Common.{subst}
use Rattle.snb_graph_model.specs.Graphs.{IsGraph}
use Rattle.snb_graph_tables.proofs.Laws.{rows_is}
use Rattle.snb_graph_tables.proofs.tables.Tables.known.Goals as goal

pub returns : goal.returns
returns c = subst IsGraph (rows_is c.self.view_is) c.self.invariant.graph
