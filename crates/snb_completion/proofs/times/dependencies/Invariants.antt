use Rattle.snb_history.specs.Schedule.{is_dependency}
use Rattle.snb_completion.specs.Waiting.{HasThose}
use Rattle.snb_completion.proofs.times.dependencies.Given as goal

abbrev pub invariant-loop-op : goal.invariant-loop-op
invariant-loop-op l = HasThose l.set l.op (is_dependency l.fn.schedule)
