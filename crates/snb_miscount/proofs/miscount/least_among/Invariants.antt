use Rattle.std.proofs.Common.{ℕ, ◌<◌, ◌≤◌, length, take, get_or}
use Rattle.snb_miscount.specs.declared.tally.Tally.{Tally}
use Rattle.snb_audit_model.specs.Miscounts.{events_of}
use Rattle.snb_miscount.specs.Tallies.{IsAlong, IsLeastAmong}
use Rattle.snb_miscount.proofs.miscount.least_among.Given as goal

-- the replica stands for a front of the history that is no later than those to come, and the best is the first of those so far
abbrev pub invariant-loop-one : goal.invariant-loop-one
invariant-loop-one g l = record {
  along : IsAlong l.base l.plan (events_of l.logged) l.replica;
  ahead : (k : ℕ) (d : Tally) → l.one-index ≤ k → k < length l.tallies → l.replica.front ≤ (get_or l.tallies k d).front;
  least : IsLeastAmong l.base l.plan l.logged (take l.one-index l.tallies) l.best;
}
