-- The kinds of the lanes so far.
use Rattle.std.proofs.Common.{◌≡◌, ◌++◌, map, take}
use Rattle.snb_history.specs.declared.step.LaneKind.TheVariants.{Person, Forum}
use Rattle.snb_plan.proofs.positions.kinds_of.Given as goal

abbrev pub invariant-loop : goal.invariant-loop
invariant-loop l = l.kinds.items ≡ map (λ _. Person) (take l.counter l.lanes.persons)

abbrev pub invariant-loop-2 : goal.invariant-loop-2
invariant-loop-2 l = l.kinds.items ≡ map (λ _. Person) l.lanes.persons ++ map (λ _. Forum) (take l.counter l.lanes.forums)
