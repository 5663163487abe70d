use Rattle.snb_reach.proofs.LeveledLemmas.{IsLeveling}
use Rattle.snb_reach.proofs.leveled.leveled.Given as goal

abbrev pub invariant-loop-id : goal.invariant-loop-id
invariant-loop-id l = IsLeveling l.level l.met l.ids l.id-index l.at l.all.items
