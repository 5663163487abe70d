use Rattle.snb_validation_check.proofs.CasesFacts.{on_each}
use Rattle.snb_validation_check.proofs.law.right_on_each_graph.Goals as goal

pub returns : goal.returns
returns c base = on_each c.graphs_are_their_rows.ensures base
