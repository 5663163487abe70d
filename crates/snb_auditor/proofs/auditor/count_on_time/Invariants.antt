use Rattle.std.proofs.Common.{◌≡◌, ◌≤◌, take}
use Rattle.snb_auditor.specs.Verdicts.{on_time}
use Rattle.snb_auditor.proofs.auditor.count_on_time.Given as goal

abbrev pub invariant-loop-event : goal.invariant-loop-event
invariant-loop-event l = (l.count ≡ on_time l.book.schedule (take l.event-index l.events)) × (l.count ≤ l.event-index)
