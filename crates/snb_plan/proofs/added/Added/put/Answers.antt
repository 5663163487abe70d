use Rattle.snb_plan.proofs.Slots.{has_put}
use Rattle.snb_plan.proofs.added.Added.put.Goals as goal

pub returns : goal.returns
returns c =
    has_put c.args.self.now (record { marks = c.insert.new.self }) c.args.key.now c.args.mark c.slot_of.result c.slot_of.ensures
    c.in_ok-insert.ensures.updates.1 c.in_ok-insert.ensures.updates.2
