use Rattle.std.proofs.Common.{◌∙◌}
use Rattle.snb_graph_integrity.proofs.ChainLemmas.{checking_begun, checking_ended, checking_found, checking_more, not_so}
use Rattle.snb_schema.specs.LentRows.{lent_row}
use Rattle.snb_graph_integrity.proofs.chains.check_chains.Goals as goal

pub loop-row-init : goal.loop-row-init
loop-row-init c = checking_begun c.args.tables.now.rows c.into_iter-row-iterator.result c.known.ensures (c.into_iter-row-iterator.ensures.into_iter_gives ∙ c.lent-row-items.ensures)

pub loop-row-preserved : goal.loop-row-preserved
loop-row-preserved c =
    checking_more c.args.tables.now.rows c.loop-row.row-iterator c.next.new.self (lent_row c.in-Some.row) c.first_id-id.result c.in-Some.ensures.steps c.first_id-id.ensures
    ((c.in_ok-marks.ensures c.first_id-id.result).0 (c.has.ensures.0 c.if-not-has.false)) c.loop-row.invariant

pub returns-then-not-has : goal.returns-then-not-has
returns-then-not-has c =
    checking_found c.args.tables.now.rows c.loop-row.row-iterator c.next.new.self (lent_row c.in-Some.row) c.first_id-id.result c.in-Some.ensures.steps c.first_id-id.ensures
    (λ chain. not_so c.has.result c.if-not-has.true c.has.ensures ((c.in_ok-marks.ensures c.first_id-id.result).1 chain)) c.loop-row.invariant

pub returns : goal.returns
returns c = checking_ended c.args.tables.now.rows c.loop-row.row-iterator c.in-None.ensures.steps.0 c.loop-row.invariant
