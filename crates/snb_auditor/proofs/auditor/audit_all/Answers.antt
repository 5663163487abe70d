use Rattle.snb_auditor.proofs.Told.{refused_told}
use Rattle.snb_auditor.proofs.auditor.audit_all.Goals as goal

pub returns-in-Err : goal.returns-in-Err
returns-in-Err c =
    refused_told c.args.schedule.now c.args.workers c.args.events.now c.loop-event.event-index _ c.loop-event.auditor _ _ c.end.result
    c.loop-event.invariant c.loop-event-test.true c.in-Err.ensures.err c.end.ensures.verdict
