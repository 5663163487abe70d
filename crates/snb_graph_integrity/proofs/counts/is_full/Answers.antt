use Rattle.std.proofs.Common.{◌≡◌, ◌∙◌, refl, subst}
use Rattle.std.proofs.lemmas.List.{take_all}
use Rattle.std.proofs.lemmas.List.Elements.{All-more}
use Rattle.std.specs.List.{All}
use Rattle.snb_graph_integrity.specs.Counts.{edge_count}
use Rattle.snb_graph_integrity.proofs.counts.is_full.Goals as goal
use Rattle.snb_graph_model.specs.Graphs.{count}

pub loop-edge-preserved : goal.loop-edge-preserved
loop-edge-preserved c = record {
  are = c.loop-edge.invariant.are;
  full = All-more (λ edge. edge_count c.args.tables.now.rows edge ≡ count c.args.tables.now.rows c.args.node) c.required_of-edge-items.result.now c.loop-edge.edge-index _ c.loop-edge-test.true c.loop-edge.invariant.full (c.are_as_many.ensures.0 c.if-not-are_as_many.false);
}

pub returns : goal.returns
returns c = (
  λ t. subst (All (λ edge. edge_count c.args.tables.now.rows edge ≡ count c.args.tables.now.rows c.args.node)) (take_all c.loop-edge.edge-index c.required_of-edge-items.result.now c.loop-edge-test.false ∙ c.loop-edge.invariant.are) c.loop-edge.invariant.full,
  λ all. refl,
)
