use Rattle.snb_history.specs.RunTexts.{header_line, header_of}
use Rattle.std.proofs.Common.{length}
use Rattle.snb_tool_plan.proofs.LogLemmas.{finish_counted, one_counted, one_more}
use Rattle.snb_tool_plan.proofs.run_command.log_of.Goals as goal

pub logged-requires : goal.logged-requires
logged-requires c = record {
  there =
      finish_counted c.args.plan.now c.args.workers c.args.events.items c.deref-event-items.result.now c.requires.legal c.deref-event-items.ensures.value c.loop-event.event-index _ c.loop-event-test.true
      c.finishes_are_of_operations.ensures c.steps-operations.result.now c.schedule.result.now _ c.schedule.ensures c.steps-operations.ensures.value c.in_ok-counts.ensures.many;
}

pub write_lines-requires : goal.write_lines-requires
write_lines-requires c = record {
  counted =
      one_counted c.args.plan.now c.args.workers c.args.events.items c.deref-event-items.result.now c.requires.legal c.deref-event-items.ensures.value c.loop-event.event-index _ c.loop-event-test.true
      c.args.replies.now c.logged.result (c.logged.ensures c.args.replies.now c.in_ok-counts.ensures.each);
}

pub loop-event-preserved : goal.loop-event-preserved
loop-event-preserved c = (
  c.loop-event.invariant.0,
  one_more c.args.replies.now c.deref-event-items.result.now c.loop-event.event-index _ (header_line (header_of c.args.workers (length c.args.plan.now.operations))) _ _ c.logged.result c.loop-event-test.true
      c.loop-event.invariant.1 (c.logged.ensures c.args.replies.now c.in_ok-counts.ensures.each) c.in_ok-write_lines.ensures.ok,
)
