use Rattle.std.proofs.Common.{take}
use Rattle.snb_history.specs.Schedule.{is_dependency}
use Rattle.snb_completion.proofs.Waits.{HasAmong}
use Rattle.snb_completion.proofs.times.dependencies_in.Given as goal

abbrev pub invariant-loop-op : goal.invariant-loop-op
invariant-loop-op l = HasAmong l.set (take l.op-index l.numbers) (is_dependency l.fn.schedule)
