use Rattle.snb_graph_tables.proofs.PartLemmas.{none_whole}
use Rattle.snb_graph_tables.proofs.tables.Tables.empty.Goals as goal

pub invariant_of-result : goal.invariant_of-result
invariant_of-result c = none_whole _ (c.empty.ensures.rows, (c.empty-2.ensures.rows, (c.empty-3.ensures.rows, (c.empty-4.ensures.rows, (c.empty-5.ensures.rows, (c.empty-6.ensures.rows, (c.empty-7.ensures.rows, (c.empty-8.ensures.rows, (c.empty-9.ensures.rows, (c.empty-10.ensures.rows, tt))))))))))

pub returns-clause-graph : goal.returns-clause-graph
returns-clause-graph c = (invariant_of-result c).graph
