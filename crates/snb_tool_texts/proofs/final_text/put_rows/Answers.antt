use Rattle.std.proofs.Common.{List, ◌++◌, ap, ◌∙◌}
use Rattle.std.specs.List.{flat_map}
use Rattle.snb_schema.specs.declared.row.Row.{Row}
use Rattle.snb_graph_model.specs.FinalText.{row_line}
use Rattle.snb_schema.specs.LentRows.{lent_row}
use Rattle.snb_tool_texts.proofs.FinalLemmas.{row_more, row_none}
use Rattle.snb_tool_texts.proofs.final_text.put_rows.Goals as goal

pub loop-row-init : goal.loop-row-init
loop-row-init c =
    ap (λ (rs : List Row). c.args.to.now.items ++ flat_map row_line rs) (c.into_iter-row-iterator.ensures.into_iter_gives ∙ c.lent-row-items.ensures)

pub loop-row-preserved : goal.loop-row-preserved
loop-row-preserved c =
    row_more c.loop-row.to.items c.put_row.new.to.items _ c.loop-row.row-iterator c.next.new.self (lent_row c.in-Some.row) c.in-Some.ensures.steps c.loop-row.invariant c.in_ok-put_row.ensures

pub returns : goal.returns
returns c = row_none c.loop-row.to.items _ c.loop-row.row-iterator c.in-None.ensures.steps.0 c.loop-row.invariant
