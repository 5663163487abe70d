use Rattle.std.proofs.Common.{subst, take_all}
use Rattle.snb_auditor.specs.Verdicts.{NobodyHalted}
use Rattle.snb_auditor.proofs.Histories.{halts_first, nobody_more}
use Rattle.snb_auditor.proofs.auditor.first_halt.Goals as goal

pub returns-in-Halt : goal.returns-in-Halt
returns-in-Halt c = halts_first c.args.events.now c.loop-event.event-index _ c.in-Halt.worker c.loop-event-test.true c.in-Halt.is c.loop-event.invariant

pub loop-event-preserved : goal.loop-event-preserved
loop-event-preserved c = nobody_more c.args.events.now c.loop-event.event-index _ c.loop-event-test.true c.in_default.not-Halt c.loop-event.invariant

pub returns : goal.returns
returns c = subst NobodyHalted (take_all c.loop-event.event-index c.args.events.now c.loop-event-test.false) c.loop-event.invariant
