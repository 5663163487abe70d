use Rattle.std.proofs.Common.{refl}
use Rattle.snb_graph_integrity.proofs.EdgeLemmas.{asking_begun, asking_ended, asking_found, asking_more, finds_err, six}
use Rattle.snb_graph_integrity.proofs.edges.check_edges.Goals as goal
use Rattle.snb_graph_model.specs.Soundness.{needs}

pub loop-node-init : goal.loop-node-init
loop-node-init c = asking_begun c.args.tables.now.rows six c.known.ensures refl

pub loop-node-preserved : goal.loop-node-preserved
loop-node-preserved c = asking_more c.args.tables.now.rows six c.loop-node.node-index _ c.loop-node-test.true c.loop-node.invariant c.in_ok-check_nodes.ensures

pub returns-in_err-check_nodes : goal.returns-in_err-check_nodes
returns-in_err-check_nodes c =
    finds_err c.args.tables.now.rows (needs c.args.tables.now.rows) c.from_residual.result c.in_err-check_nodes.field-0.0 c.from_residual.ensures.1
    (asking_found c.args.tables.now.rows six c.loop-node.node-index _ c.loop-node-test.true c.loop-node.invariant c.in_err-check_nodes.field-0.0 c.in_err-check_nodes.ensures)

pub returns : goal.returns
returns c = asking_ended c.args.tables.now.rows six c.loop-node.node-index c.loop-node-test.false c.loop-node.invariant
