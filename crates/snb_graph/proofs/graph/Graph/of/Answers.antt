use Rattle.std.proofs.Common.{◌∙◌, sym, subst}
use Rattle.snb_graph_adjacency.specs.Kept.{IsAlong}
use Rattle.snb_graph.proofs.graph.Graph.of.Goals as goal

pub invariant_of-result : goal.invariant_of-result
invariant_of-result c = record {
  indexed = c.in_ok-links.ensures;
  backed = λ l has. subst (λ g. IsAlong g l) (c.in_ok-freeze.ensures.rows ∙ sym c.in_ok-freeze.ensures.ok) ((c.in_ok-links.ensures.same l).0 (c.known.ensures l has));
}
