use Rattle.std.proofs.Common.{sym, subst}
use Rattle.std.specs.List.{All}
use Rattle.snb_schema.specs.TableRows.{IsTableRow}
use Rattle.snb_trial.proofs.TenRows.{all_new, gained_all, rows_fit}
use Rattle.snb_trial.proofs.dataset.trial_graph.Goals as goal

pub insert_all-requires : goal.insert_all-requires
insert_all-requires c = subst (All IsTableRow) (sym c.in_ok-rows.ensures) rows_fit

pub unreachable-requires : goal.unreachable-requires
unreachable-requires c =
    all_new c.empty-graph.result c.in_ok-rows.rows.items c.empty-graph.ensures c.in_ok-rows.ensures
    (c.insert_all.ensures.duplicate (cc (c.in-Err-Duplicate.is, c.in-Err-Duplicate.field-0-is)))

pub returns-in-Ok : goal.returns-in-Ok
returns-in-Ok c = gained_all c.empty-graph.result c.in_ok-rows.rows.items c.insert_all.new.self c.empty-graph.ensures c.in_ok-rows.ensures c.in-Ok.ensures.ok
