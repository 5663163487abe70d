-- What is made so far stands beside what it is made of.
use Rattle.std.proofs.Common.{Ok, take}
use Rattle.std.specs.Fn.{FnReturnsAt}
use Rattle.std.specs.List.{AllZip}
use Rattle.snb_base.proofs.owned_list.list_of.Given as goal

abbrev pub invariant-loop-item : goal.invariant-loop-item
invariant-loop-item g l = AllZip (λ item one. FnReturnsAt g.F.Fn l.make item (Ok one)) (take l.item-index l.items) l.made.items
