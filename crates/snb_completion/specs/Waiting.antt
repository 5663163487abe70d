-- The sets of operations that are waited for. Cited by contracts of private functions alone.
use Rattle.std.specs.Prelude.{◌≡◌, ℕ, ◌<◌, ◌==◌, nat_lt, ◌&&◌, List, length, Bool, slice_index_or}
use Rattle.std.specs.BTreeSet.{BTreeSet, contains}
use Rattle.std.specs.Ordering.{nat_cmp}
use Rattle.snb_history.specs.Schedule.{Schedule, step_of, IsPlanned}
use Rattle.snb_history.specs.Completion.{is_left}
use Rattle.snb_completion.specs.declared.times.LaneTimes.{LaneTimes}
use Rattle.snb_completion.specs.Progress.{Progress, flag}

-- whether the set has the number
abbrev pub has : BTreeSet ℕ → ℕ → Bool
has set k = contains nat_cmp set k

-- the set has the numbers below n that pass the test, and no others
pub record HasThose (set : BTreeSet ℕ) (n : ℕ) (p : ℕ → Bool) : Type 0 where
  pub each : (k : ℕ) → has set k ≡ (nat_lt k n && p k)

-- a lane's dependency that isn't done
abbrev pub is_left_in : Schedule → (ℕ → Bool) → ℕ → ℕ → Bool
is_left_in s done lane k = ((step_of s k).lane == lane) && is_left s done k

-- the lane's dependencies that aren't started, and those that aren't finished
pub record IsLaneOf (p : Progress) (lane : ℕ) (times : LaneTimes) : Type 0 where
  pub unstarted : HasThose times.unstarted (length p.schedule.steps)
      (is_left_in p.schedule (flag p.started) lane)
  pub unfinished : HasThose times.unfinished (length p.schedule.steps)
      (is_left_in p.schedule (flag p.finished) lane)

-- the steps are a plan's, and there are a flag for each operation, the set of the dependencies that
-- aren't finished, and the two sets of each lane
pub record AreTimesOf (p : Progress) (unfinished : BTreeSet ℕ) (lanes : List LaneTimes)
    : Type 0 where
  pub planned : IsPlanned p.schedule
  pub started_each : length p.started ≡ length p.schedule.steps
  pub finished_each : length p.finished ≡ length p.schedule.steps
  pub plan : HasThose unfinished (length p.schedule.steps) (is_left p.schedule (flag p.finished))
  pub lanes_each : length lanes ≡ length p.schedule.kinds
  pub lane : (l : ℕ) (d : LaneTimes) → l < length lanes → IsLaneOf p l (slice_index_or lanes l d)
