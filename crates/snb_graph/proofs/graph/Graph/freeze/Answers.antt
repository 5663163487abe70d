use Rattle.std.proofs.Common.{sym, subst}
use Rattle.snb_graph_adjacency.specs.Kept.{IsBacked, IsIndexed}
use Rattle.snb_graph_adjacency.proofs.Laws.{all_backed, more_backed, same_indexed}
use Rattle.snb_graph.proofs.graph.Graph.freeze.Goals as goal

-- not all rows are frozen, and the links are as they were
pub invariant_of-self : goal.invariant_of-self
invariant_of-self c = record {
  indexed = subst (λ g. IsIndexed g c.self.inside.links) (sym c.freeze.ensures.rows) c.self.invariant.indexed;
  backed = more_backed c.self.inside.tables.frozen c.freeze.new.self.frozen c.self.inside.links c.freeze.ensures.more c.self.invariant.backed;
}

-- all rows are frozen, and some of the links
pub invariant_of-self-2 : goal.invariant_of-self-2
invariant_of-self-2 c = record {
  indexed = subst (λ g. IsIndexed g c.freeze-2.new.self) (sym c.freeze.ensures.rows) (same_indexed c.self.inside.tables.rows c.self.inside.links c.freeze-2.new.self c.freeze-2.ensures.same c.self.invariant.indexed);
  backed = subst (λ g. IsBacked g c.freeze-2.new.self) (sym c.in_ok-freeze.ensures.ok) (all_backed c.self.inside.tables.rows c.self.inside.links c.freeze-2.new.self c.self.invariant.indexed c.freeze-2.ensures.same c.freeze-2.ensures.among);
}
