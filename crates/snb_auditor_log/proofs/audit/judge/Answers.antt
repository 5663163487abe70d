use Rattle.snb_auditor_log.proofs.VerdictFacts.{refused_told}
use Rattle.snb_auditor_log.proofs.audit.judge.Goals as goal

pub returns-in-Err : goal.returns-in-Err
returns-in-Err c =
    refused_told c.args.schedule.now c.args.workers c.args.logged.now c.loop-one.one-index _ c.loop-one.auditor _ _ c.end.result
    c.loop-one.invariant c.loop-one-test.true c.in-Err.ensures.err c.end.ensures.verdict
