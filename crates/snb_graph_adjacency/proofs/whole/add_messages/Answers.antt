use Rattle.std.proofs.Common.{◌∙◌, ap, refl}
use Rattle.snb_graph_rows.specs.Edges.{edge_row}
use Rattle.snb_graph_rows.specs.KeysApart.{edge_name}
use Rattle.snb_graph_rows.specs.Rows.{entry_row, rows_by}
use Rattle.snb_graph_adjacency.proofs.WholeLemmas.{GivesMessage, adding_ended, adding_none, adding_one, dated_gives, gives_messages, undated_gives}
use Rattle.snb_graph_adjacency.proofs.whole.add_messages.Goals as goal

pub loop-key-preserved-in-Continue-1 : goal.loop-key-preserved-in-Continue-1
loop-key-preserved-in-Continue-1 c =
    rw c.in_ok-push.ensures.items
    (adding_one (GivesMessage c.args.tables.now.rows c.args.kind) c.args.links.now.items c.into_iter-key-iterator.result c.loop-key.links.items (c.in-Some.key.now, c.in-Some.end.now) c.loop-key.key-iterator c.next.new.self (c.in-Some.end.now, (c.in-Some.key.now.first, c.in-Some-message_date.date)) c.in-Some.ensures.steps
    (dated_gives c.args.tables.now.rows c.known.ensures c.args.kind (c.in-Some.key.now, c.in-Some.end.now) c.in-Some-message_date.date c.in-Some-message_date.ensures.found) c.loop-key.invariant)

pub loop-key-preserved : goal.loop-key-preserved
loop-key-preserved c =
    adding_none (GivesMessage c.args.tables.now.rows c.args.kind) c.args.links.now.items c.into_iter-key-iterator.result c.loop-key.links.items (c.in-Some.key.now, c.in-Some.end.now) c.loop-key.key-iterator c.next.new.self c.in-Some.ensures.steps
    (undated_gives c.args.tables.now.rows c.args.kind (c.in-Some.key.now, c.in-Some.end.now) (c.in_default.ensures.none refl)) c.loop-key.invariant

pub returns : goal.returns
returns c =
    adding_ended (GivesMessage c.args.tables.now.rows c.args.kind) c.args.links.now.items c.into_iter-key-iterator.result c.loop-key.links.items c.loop-key.key-iterator _ c.in-None.ensures.steps.0
    (gives_messages c.args.tables.now.rows c.args.table c.args.kind c.into_iter-key-iterator.result (ap (rows_by (entry_row edge_name edge_row)) c.into_iter-key-iterator.ensures.into_iter_gives ∙ c.edges_of-key-items.ensures.rows) c.requires.links c.requires.first) c.loop-key.invariant
