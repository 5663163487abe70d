use Rattle.std.proofs.Common.{◌≡◌, take}
use Rattle.snb_audit_model.specs.Miscounts.{events_of}
use Rattle.snb_test_workers.proofs.asked.log_of_sevens.Given as goal

-- the events so far
abbrev pub invariant-loop-event : goal.invariant-loop-event
invariant-loop-event l = events_of l.logged.items ≡ take l.event-index l.events
