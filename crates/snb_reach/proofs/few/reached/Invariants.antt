use Rattle.snb_reach.specs.Few.{AreMet}
use Rattle.snb_reach.proofs.few.reached.Given as goal

abbrev pub invariant-loop-done : goal.invariant-loop-done
invariant-loop-done l = AreMet l.graph l.start l.done l.met.items
