use Rattle.std.proofs.Common.{◌≡◌, take, None}
use Rattle.snb_audit_model.specs.Miscounts.{events_of}
use Rattle.snb_auditor_log.proofs.audit.judge.Given as goal

-- the auditor has the events so far, each of which fits
abbrev pub invariant-loop-one : goal.invariant-loop-one
invariant-loop-one l =
    l.auditor ≡ record { schedule = l.schedule; workers = l.workers; fitted = events_of (take l.one-index l.logged); kept = None }
