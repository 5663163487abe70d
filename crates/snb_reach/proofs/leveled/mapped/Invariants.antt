use Rattle.std.proofs.Common.{nat_eq}
use Rattle.std.specs.HashMap.{get}
use Rattle.snb_reach.proofs.LeveledLemmas.{IsMapping, IsRemapping}
use Rattle.snb_reach.proofs.leveled.mapped.Given as goal

abbrev pub invariant-loop-id : goal.invariant-loop-id
invariant-loop-id l = IsMapping l.level l.met l.ids l.id-index (get nat_eq l.map)

abbrev pub invariant-loop-one : goal.invariant-loop-one
invariant-loop-one l = IsRemapping l.level l.met l.ids l.one-index (get nat_eq l.map)
