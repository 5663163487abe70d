use Rattle.std.proofs.Common.{◌≡◌, take, None}
use Rattle.snb_auditor.proofs.auditor.audit_all.Given as goal

abbrev pub invariant-loop-event : goal.invariant-loop-event
invariant-loop-event l =
    l.auditor ≡ record { schedule = l.schedule; workers = l.workers; fitted = take l.event-index l.events; kept = None }
