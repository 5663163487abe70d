use Rattle.snb_reach.proofs.FewLemmas.{IsVisiting}
use Rattle.snb_reach.proofs.few.near_ids.Given as goal

abbrev pub invariant-loop-one : goal.invariant-loop-one
invariant-loop-one l = IsVisiting l.graph l.start l.level l.met l.one-index l.noted.items l.ids.items
