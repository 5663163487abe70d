use Rattle.std.proofs.Common.{codes}
use Rattle.snb_tool_texts.proofs.FinalLemmas.{section_all, section_more}
use Rattle.snb_tool_texts.proofs.final_text.final_lines.Goals as goal

pub loop-table-preserved : goal.loop-table-preserved
loop-table-preserved c =
    section_more c.args.graph.now c.tables_in_order-table-items.result.now c.loop-table.table-index _ (codes "final|1\n") c.loop-table.text.items c.put_section.new.to.items c.loop-table-test.true c.loop-table.invariant c.in_ok-put_section.ensures

pub returns : goal.returns
returns c = section_all c.args.graph.now c.tables_in_order-table-items.result.now c.loop-table.table-index c.loop-table.text.items c.loop-table-test.false c.loop-table.invariant c.tables_in_order-table-items.ensures
