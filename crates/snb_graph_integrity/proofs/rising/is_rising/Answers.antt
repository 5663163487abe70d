use Rattle.std.proofs.Common.{◌∙◌, ap, refl}
use Rattle.snb_graph_rows.specs.Edges.{edge_row}
use Rattle.snb_graph_rows.specs.KeysApart.{edge_name}
use Rattle.snb_graph_rows.specs.Rows.{entry_row, rows_by}
use Rattle.snb_graph_integrity.proofs.RisingLemmas.{risen_begun, risen_ended, risen_more, risen_not}
use Rattle.snb_graph_integrity.proofs.rising.is_rising.Goals as goal

pub loop-key-init : goal.loop-key-init
loop-key-init c = risen_begun c.args.tables.now.rows c.into_iter-key-iterator.result (ap (rows_by (entry_row edge_name edge_row)) c.into_iter-key-iterator.ensures.into_iter_gives ∙ c.edges_of-key-items.ensures.rows)

pub loop-key-preserved : goal.loop-key-preserved
loop-key-preserved c = risen_more c.args.tables.now.rows c.loop-key.key-iterator c.next.new.self c.in-Some.key.now c.in-Some.parent.now c.in-Some.ensures.steps c.loop-key.invariant c.if-key-parent.false

pub returns-then-key-parent : goal.returns-then-key-parent
returns-then-key-parent c = (
  λ t. absurd cc,
  λ rising. absurd (risen_not c.args.tables.now.rows c.loop-key.key-iterator c.next.new.self c.in-Some.key.now c.in-Some.parent.now c.in-Some.ensures.steps c.loop-key.invariant c.if-key-parent.true rising),
)

pub returns : goal.returns
returns c = (λ t. risen_ended c.args.tables.now.rows c.loop-key.key-iterator c.in-None.ensures.steps.0 c.loop-key.invariant, λ rising. refl)
