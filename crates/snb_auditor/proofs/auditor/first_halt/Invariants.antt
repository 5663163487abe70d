use Rattle.std.proofs.Common.{take}
use Rattle.snb_auditor.specs.Verdicts.{NobodyHalted}
use Rattle.snb_auditor.proofs.auditor.first_halt.Given as goal

abbrev pub invariant-loop-event : goal.invariant-loop-event
invariant-loop-event l = NobodyHalted (take l.event-index l.events)
