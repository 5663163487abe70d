use Rattle.std.proofs.Common.{◌∙◌, refl, subst, sym}
use Rattle.std.proofs.lemmas.List.{take_all}
use Rattle.std.proofs.lemmas.List.Elements.{All-get_or, All-more}
use Rattle.std.specs.List.{All}
use Rattle.snb_graph_integrity.specs.Counts.{IsFull}
use Rattle.snb_graph_integrity.proofs.ChainLemmas.{not_so}
use Rattle.snb_graph_integrity.proofs.counts.are_full.Goals as goal

pub returns-then-not-is_full : goal.returns-then-not-is_full
returns-then-not-is_full c = (
  λ t. absurd cc,
  λ all. absurd (not_so c.is_full.result c.if-not-is_full.true c.is_full.ensures (All-get_or (IsFull c.args.tables.now.rows) c.tables_in_order-node-items.result.now c.loop-node.node-index _ c.loop-node-test.true (subst (All (IsFull c.args.tables.now.rows)) (sym c.loop-node.invariant.are) all))),
)

pub loop-node-preserved : goal.loop-node-preserved
loop-node-preserved c = record {
  are = c.loop-node.invariant.are;
  full = All-more (IsFull c.args.tables.now.rows) c.tables_in_order-node-items.result.now c.loop-node.node-index _ c.loop-node-test.true c.loop-node.invariant.full (c.is_full.ensures.0 c.if-not-is_full.false);
}

pub returns : goal.returns
returns c = (
  λ t. subst (All (IsFull c.args.tables.now.rows)) (take_all c.loop-node.node-index c.tables_in_order-node-items.result.now c.loop-node-test.false ∙ c.loop-node.invariant.are) c.loop-node.invariant.full,
  λ all. refl,
)
