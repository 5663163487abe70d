-- What a book keeps beside its history, to answer without reading it. Cited by contracts of private
-- functions alone.
use Rattle.std.specs.Prelude.{◌≡◌, ℕ, ◌+◌, ◌*◌, ◌<◌, ◌≤◌, nat_lt, List, length, Bool, true, false, Option, None, slice_index, slice_index_or}
use Rattle.snb_schema.specs.declared.limits.TheConstants.{MAX_WORKERS}
use Rattle.snb_history.specs.Schedule.{Schedule, step_of, IsOperation, IsPlanned}
use Rattle.snb_history.specs.History.{started, finished, halted, hand, last}
use Rattle.snb_history.specs.Rules.{IsLegal}
use Rattle.snb_completion.specs.Progress.{Progress, flag}
use Rattle.snb_book.specs.Kept.{Kept}

-- the operation stands at the place that is kept for its lane
abbrev pub IsNext : Schedule → List ℕ → ℕ → Type 0
IsNext s heads k = IsOperation s k × ((step_of s k).place ≡ slice_index heads (step_of s k).lane)

-- what is started and finished, for each lane the place of its head, for each worker what it has in
-- hand, the last moment, and whether somebody has halted
pub record IsTold (b : Kept) (times : Progress) (heads : List ℕ) (held : List (Option ℕ))
    (latest : ℕ) (stopped : Bool) : Type 0 where
  pub a_start_each : length times.started ≡ length b.schedule.steps
  pub flags : (k : ℕ) → IsOperation b.schedule k → flag times.started k ≡ started b.history k
  pub a_finish_each : length times.finished ≡ length b.schedule.steps
  pub over : (k : ℕ) → IsOperation b.schedule k → flag times.finished k ≡ finished b.history k
  pub a_head_each : length heads ≡ length b.schedule.kinds
  pub begun : (k : ℕ) → IsOperation b.schedule k
      → started b.history k ≡ nat_lt (step_of b.schedule k).place
      (slice_index heads (step_of b.schedule k).lane)
  pub a_hand_each : length held ≡ b.workers
  pub hands : (w : ℕ) → w < b.workers → slice_index_or held w None ≡ hand b.history w
  pub at : latest ≡ last b.history
  pub stops : stopped ≡ true → (w : ℕ) × (halted b.history w ≡ true)
  pub runs : stopped ≡ false → (w : ℕ) → halted b.history w ≡ false

-- what is true of every book, whose log has this capacity
pub record IsSoundBook (b : Kept) (capacity : ℕ) : Type 0 where
  pub planned : IsPlanned b.schedule
  pub few : b.workers ≤ MAX_WORKERS
  pub legal : IsLegal b.schedule b.workers b.history
  pub room : 2 * length b.schedule.steps + b.workers ≤ capacity
