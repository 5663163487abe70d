use Rattle.snb_auditor.proofs.Telling.{AreStopped-none, AreBegun-none}
use Rattle.snb_auditor.proofs.auditor.Auditor.new.Goals as goal

pub invariant_of-result : goal.invariant_of-result
invariant_of-result c =
    rw (c.in_ok-make.ensures, c.in_ok-none_stopped.ensures, c.in_ok-none_begun.ensures) (
      AreStopped-none c.args.schedule.now c.args.workers,
      AreBegun-none c.args.schedule.now c.args.workers,
    )
