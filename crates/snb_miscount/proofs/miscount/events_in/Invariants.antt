use Rattle.std.proofs.Common.{◌≡◌, take}
use Rattle.snb_audit_model.specs.Miscounts.{events_of}
use Rattle.snb_miscount.proofs.miscount.events_in.Given as goal

-- the events so far
abbrev pub invariant-loop-one : goal.invariant-loop-one
invariant-loop-one l = l.events.items ≡ events_of (take l.one-index l.logged)
