use Rattle.std.proofs.Common.{subst, sym}
use Rattle.std.proofs.lemmas.Result.{IfOk-weaker}
use Rattle.snb_plan.specs.Plans.{Work}
use Rattle.snb_miscount.specs.Tallies.{HasRows}
use Rattle.snb_miscount.proofs.MiscountFacts.{rows_of_own}
use Rattle.snb_miscount.proofs.miscount.rows_at.Goals as goal

pub returns-in_ok-own-in-Ask : goal.returns-in_ok-own-in-Ask
returns-in_ok-own-in-Ask g c =
    let graph = c.args.graph.now in
    let query = c.in-Ask.query.now in
    let own = c.in_ok-own-in-Ask in
    let task = c.in-Ask.ensures in
    IfOk-weaker c.count_rows.result _ _
    (λ n size. (
      task.0,
      task.1,
      subst (λ (w : Work). HasRows graph w n) (sym task.2) (rows_of_own c.one_reply.ensures.answer c.some_reply.ensures graph c.known.ensures c.requires.sound query own.own n own.ensures size),
    ))
    c.count_rows.ensures.ok
