-- The completion times of a history.
use Rattle.std.specs.Prelude.{ℕ, zero, suc, ◌+◌, ◌==◌, min, ℤ, pos, ◌-ℤ◌, List, length, Bool, ◌&&◌, not, if◌then◌else◌}
use Rattle.snb_schema.specs.declared.limits.TheConstants.{MAX_TIME}
use Rattle.snb_history.specs.declared.event.Event.{Event}
use Rattle.snb_history.specs.Schedule.{Schedule, step_of}
use Rattle.snb_history.specs.History.{started, finished}

-- the least value of f at the numbers below n that pass the test, where top is no less than any
abbrev pub least_of : (ℕ → ℕ) → ℕ → (ℕ → Bool) → ℕ → ℕ
least_of f top p zero = top
least_of f top p (suc n) = min (if p n then f n else top) (least_of f top p n)

-- the least t of the operations that pass the test, or MAX_TIME + 1 where none does
abbrev pub least_t : Schedule → (ℕ → Bool) → ℕ
least_t s p = least_of (λ k. (step_of s k).t) (MAX_TIME + 1) p (length s.steps)

-- the least number of an operation that passes the test, or the number of operations where none
-- does
abbrev pub first_op : Schedule → (ℕ → Bool) → ℕ
first_op s p = least_of (λ k. k) (length s.steps) p (length s.steps)

-- that time less one
abbrev pub time_before : Schedule → (ℕ → Bool) → ℤ
time_before s p = pos (least_t s p) -ℤ pos 1

-- a dependency that doesn't pass the test of those that are done
abbrev pub is_left : Schedule → (ℕ → Bool) → ℕ → Bool
is_left s done k = (step_of s k).dependency && not (done k)

-- the least t of a dependency of the plan that isn't done, less one, or MAX_TIME where there is
-- none
abbrev pub time_left : Schedule → (ℕ → Bool) → ℤ
time_left s done = time_before s (is_left s done)

-- the same over one lane
abbrev pub time_left_in : Schedule → (ℕ → Bool) → ℕ → ℤ
time_left_in s done lane = time_before s (λ k. ((step_of s k).lane == lane) && is_left s done k)

-- a dependency that isn't finished
abbrev pub is_awaited : Schedule → List Event → ℕ → Bool
is_awaited s h k = is_left s (finished h) k

-- the least t of an unfinished dependency of the plan, less one, so -1 where that t is 0; or
-- MAX_TIME where there is none
abbrev pub completion : Schedule → List Event → ℤ
completion s h = time_left s (finished h)

-- the same over one lane
abbrev pub local : Schedule → List Event → ℕ → ℤ
local s h lane = time_left_in s (finished h) lane

-- the same over one lane, of the dependencies that aren't started
abbrev pub initiated : Schedule → List Event → ℕ → ℤ
initiated s h lane = time_left_in s (started h) lane
