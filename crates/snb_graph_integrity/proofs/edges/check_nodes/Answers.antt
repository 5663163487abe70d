use Rattle.std.proofs.Common.{◌∙◌}
use Rattle.std.specs.List.{flat_map}
use Rattle.snb_graph_model.specs.Graphs.{rows}
use Rattle.snb_graph_model.specs.Soundness.{needs_of}
use Rattle.snb_graph_integrity.proofs.EdgeLemmas.{finds_err, needing_begun, needing_ended, needing_found, needing_more, needing_small}
use Rattle.snb_schema.specs.LentRows.{lent_row}
use Rattle.snb_graph_integrity.proofs.edges.check_nodes.Goals as goal

pub loop-row-init : goal.loop-row-init
loop-row-init c = needing_begun c.args.tables.now.rows c.args.node c.into_iter-row-iterator.result c.known.ensures (c.into_iter-row-iterator.ensures.into_iter_gives ∙ c.lent-row-items.ensures)

pub check_node-requires : goal.check_node-requires
check_node-requires c =
    needing_small c.args.tables.now.rows c.args.node c.loop-row.row-iterator c.next.new.self (lent_row c.in-Some.row) c.first_id.result c.in-Some.ensures.steps c.first_id.ensures c.loop-row.invariant

pub loop-row-preserved : goal.loop-row-preserved
loop-row-preserved c =
    needing_more c.args.tables.now.rows c.args.node c.loop-row.row-iterator c.next.new.self (lent_row c.in-Some.row) c.first_id.result c.in-Some.ensures.steps c.first_id.ensures c.loop-row.invariant c.in_ok-check_node.ensures

pub returns-in_err-check_node : goal.returns-in_err-check_node
returns-in_err-check_node c =
    finds_err c.args.tables.now.rows (flat_map needs_of (rows c.args.tables.now.rows c.args.node)) c.from_residual.result c.in_err-check_node.field-0.0 c.from_residual.ensures.1
    (needing_found c.args.tables.now.rows c.args.node c.loop-row.row-iterator c.next.new.self (lent_row c.in-Some.row) c.first_id.result c.in-Some.ensures.steps c.first_id.ensures c.loop-row.invariant
    c.in_err-check_node.field-0.0 c.in_err-check_node.ensures)

pub returns : goal.returns
returns c = needing_ended c.args.tables.now.rows c.args.node c.loop-row.row-iterator c.in-None.ensures.steps.0 c.loop-row.invariant
