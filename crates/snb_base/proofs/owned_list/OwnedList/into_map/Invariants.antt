-- What is made so far stands beside what it is made of.
use Rattle.std.proofs.Common.{Ok}
use Rattle.std.specs.List.{AllZip}
use Rattle.snb_base.proofs.owned_list.OwnedList.into_map.Given as goal

abbrev pub invariant-loop-item : goal.invariant-loop-item
invariant-loop-item g l = AllZip (λ item one. goal.F-post g l.make item (Ok one)) l.yielded l.made.items
