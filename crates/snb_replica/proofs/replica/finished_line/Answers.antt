use Rattle.std.proofs.Common.{◌∙◌, ap}
use Rattle.snb_workers_replay.specs.Replay.{finished_insert}
use Rattle.snb_workers_replay.proofs.Laws.{insert_has_line, work_inserts}
use Rattle.snb_replica.proofs.replica.finished_line.Goals as goal

pub returns-in-Insert : goal.returns-in-Insert
returns-in-Insert c =
    let o = c.in-Insert.ensures in (
      ap (finished_insert c.args.plan.now) c.in-Finish.is ∙ work_inserts c.args.plan.now c.in-Finish.op o.0 c.in-Insert.line.now o.1 o.2,
      insert_has_line c.args.plan.now c.in-Finish.op c.in-Insert.line.now.op c.requires.streams (work_inserts c.args.plan.now c.in-Finish.op o.0 c.in-Insert.line.now o.1 o.2),
    )
