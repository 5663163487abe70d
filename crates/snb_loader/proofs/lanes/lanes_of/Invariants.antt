use Rattle.std.proofs.Common.{◌≡◌, ◌++◌, [], map}
use Rattle.snb_loader.proofs.lanes.lanes_of.Given as goal

-- the lanes of persons so far and those that are left are all of them, and there is no forum lane
abbrev pub invariant-loop-lines : goal.invariant-loop-lines
invariant-loop-lines l = (l.lanes.persons ++ map (λ v. v.items) l.lines-iterator.rest.items ≡ l.fn.persons.done) × (l.lanes.forums ≡ [])

-- the forum lanes so far and those that are left are all of them, and the lanes of persons are complete
abbrev pub invariant-loop-lines-2 : goal.invariant-loop-lines-2
invariant-loop-lines-2 l = (l.lanes.forums ++ map (λ v. v.items) l.lines-iterator.rest.items ≡ l.fn.forums.done) × (l.lanes.persons ≡ l.fn.persons.done)
