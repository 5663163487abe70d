use Rattle.std.proofs.Common.{◌∙◌, true, false, ap}
use Rattle.snb_graph_rows.specs.Edges.{edge_row}
use Rattle.snb_graph_rows.specs.KeysApart.{edge_name}
use Rattle.snb_graph_rows.specs.Rows.{entry_row, rows_by}
use Rattle.snb_graph_adjacency.proofs.WholeLemmas.{GivesEdge, adding_ended, adding_one, gives_edge_back, gives_edge_forth, gives_edges}
use Rattle.snb_graph_adjacency.proofs.whole.add_edges.Goals as goal

pub loop-key-preserved-in-Continue-1 : goal.loop-key-preserved-in-Continue-1
loop-key-preserved-in-Continue-1 c =
    rw c.in_ok-push.ensures.items
    (adding_one (GivesEdge c.args.back) c.args.links.now.items c.into_iter-key-iterator.result c.loop-key.links.items (c.in-Some.key.now, c.in-Some.value.now) c.loop-key.key-iterator c.next.new.self (c.in-Some.key.now.second, (c.in-Some.key.now.first, c.in-Some.value.now)) c.in-Some.ensures.steps
    (gives_edge_back c.args.back (c.in-Some.key.now, c.in-Some.value.now) c.if-back.true) c.loop-key.invariant)

pub loop-key-preserved : goal.loop-key-preserved
loop-key-preserved c =
    rw c.in_ok-push-2.ensures.items
    (adding_one (GivesEdge c.args.back) c.args.links.now.items c.into_iter-key-iterator.result c.loop-key.links.items (c.in-Some.key.now, c.in-Some.value.now) c.loop-key.key-iterator c.next.new.self (c.in-Some.key.now.first, (c.in-Some.key.now.second, c.in-Some.value.now)) c.in-Some.ensures.steps
    (gives_edge_forth c.args.back (c.in-Some.key.now, c.in-Some.value.now) c.if-back.false) c.loop-key.invariant)

pub returns : goal.returns
returns c =
    adding_ended (GivesEdge c.args.back) c.args.links.now.items c.into_iter-key-iterator.result c.loop-key.links.items c.loop-key.key-iterator _ c.in-None.ensures.steps.0
    (gives_edges c.args.tables.now.rows c.args.table c.args.back c.into_iter-key-iterator.result (ap (rows_by (entry_row edge_name edge_row)) c.into_iter-key-iterator.ensures.into_iter_gives ∙ c.edges_of-key-items.ensures.rows) c.requires) c.loop-key.invariant
