use Rattle.snb_workers_replay.proofs.Laws.{work_inserts, work_is_of_line}
use Rattle.snb_validation_expect.proofs.Steps.{asks, inserts}
use Rattle.snb_validation_expect.proofs.expect.expect_one.Goals as goal

pub expect_insert-requires-clause-line : goal.expect_insert-requires-clause-line
expect_insert-requires-clause-line g c =
    let task = c.in-Insert.ensures in work_is_of_line c.args.plan.now c.args.op task.0 c.in-Insert.line.now c.known.ensures task.1 task.2

pub expect_insert-requires-clause-sound : goal.expect_insert-requires-clause-sound
expect_insert-requires-clause-sound g c = c.requires.at.1.sound

pub expect_insert-requires-clause-welcome : goal.expect_insert-requires-clause-welcome
expect_insert-requires-clause-welcome g c =
    let task = c.in-Insert.ensures in
    let at = c.requires.at in
    c.order_is_welcome.ensures at.0 c.args.plan.now c.args.op c.in-Insert.line.now.op c.args.graph.now at.1.replayed
    (work_inserts c.args.plan.now c.args.op task.0 c.in-Insert.line.now task.1 task.2) at.1.before

pub returns-in-Insert-clause-ok : goal.returns-in-Insert-clause-ok
returns-in-Insert-clause-ok g c =
    let task = c.in-Insert.ensures in
    inserts c.args.plan.now c.args.op task.0 c.args.to.now.items c.expect_insert.new.to.items c.args.graph.now c.expect_insert.result task.1 c.expect_insert.new.graph c.in-Insert.line.now task.2
    c.expect_insert.ensures.put c.expect_insert.ensures.gained c.expect_insert.ensures.sound

pub returns-in-Ask-clause-ok : goal.returns-in-Ask-clause-ok
returns-in-Ask-clause-ok g c =
    let task = c.in-Ask.ensures in
    asks c.args.plan.now c.args.op task.0 c.args.to.now.items c.expect_ask.new.to.items c.args.graph.now c.expect_ask.result task.1 c.in-Ask.query.now task.2 c.expect_ask.ensures.put
