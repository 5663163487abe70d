use Rattle.std.proofs.Common.{nat_eq}
use Rattle.std.specs.HashMap.{get}
use Rattle.snb_reach.specs.Levels.{IsGrown}
use Rattle.snb_reach.proofs.reach.distances.Given as goal

abbrev pub invariant-loop-done : goal.invariant-loop-done
invariant-loop-done l = IsGrown l.graph l.start l.done (get nat_eq l.met) l.last.items
