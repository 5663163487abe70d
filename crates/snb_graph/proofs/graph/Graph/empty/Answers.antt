use Rattle.snb_graph.proofs.GraphLemmas.{none_kept}
use Rattle.snb_graph.proofs.graph.Graph.empty.Goals as goal

pub invariant_of-result : goal.invariant_of-result
invariant_of-result c = none_kept c.empty.result c.empty-2.result c.empty.ensures.rows c.empty.ensures.graph c.empty-2.ensures.none c.empty-2.ensures.frozen
