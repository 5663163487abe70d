-- The replies from the place on are to operations of greater number.
use Rattle.std.proofs.Common.{ℕ, ◌<◌, ◌≤◌, length, get_or}
use Rattle.snb_answered.specs.declared.done.Answered.{Answered}
use Rattle.snb_answered.proofs.done.Done.place_of.Given as goal

abbrev pub invariant-loop-place : goal.invariant-loop-place
invariant-loop-place l =
    (l.place ≤ length l.self-inside.items.items)
    × ((k : ℕ) (d : Answered) → l.place ≤ k → k < length l.self-inside.items.items → l.op < (get_or l.self-inside.items.items k d).op)

abbrev pub decreases-loop-place : goal.decreases-loop-place
decreases-loop-place l = l.place
