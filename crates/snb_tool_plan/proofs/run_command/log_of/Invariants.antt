use Rattle.std.proofs.Common.{◌≡◌, ◌++◌, length, take}
use Rattle.snb_history.specs.RunTexts.{header_line, header_of}
use Rattle.snb_runlog.specs.Writing.{logged_text}
use Rattle.snb_replica.specs.Counts.{logged_of}
use Rattle.snb_tool_plan.proofs.run_command.log_of.Given as goal

-- the header and the lines of the events so far are written
abbrev pub invariant-loop-event : goal.invariant-loop-event
invariant-loop-event l =
    (l.event-items ≡ l.fn.events.items)
    × (l.log.items ≡ header_line (header_of l.workers (length l.plan.operations)) ++ logged_text (logged_of l.replies (take l.event-index l.event-items)))
