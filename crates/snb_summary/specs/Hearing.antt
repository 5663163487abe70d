-- What is kept of a history and of a schedule. Cited by contracts of private functions alone.
use Rattle.std.specs.Prelude.{◌≡◌, ℕ, ◌+◌, ◌<◌, ◌≤◌, max, Option, Some, None, List, filter, length, map, slice_index, slice_index_or, slice_set}
use Rattle.std.specs.List.{range_with_len}
use Rattle.snb_history.specs.declared.event.Event.{Event}
use Rattle.snb_history.specs.declared.event.Event.TheVariants.{Start, Finish, Halt}
use Rattle.snb_history.specs.Schedule.{Schedule, is_dependency}
use Rattle.snb_summary.specs.declared.times.Heard.{Heard}
use Rattle.snb_summary.specs.declared.times.Times.{Times}
use Rattle.snb_summary.specs.Latencies.{OpMoments, greatest}

-- the event's operation, if it has one, is one of so many
abbrev pub IsOf : ℕ → Event → Type 0
IsOf n (Start op worker at) = op < n
IsOf n (Finish op worker at front) = op < n
IsOf n (Halt worker) = Unit {0}

-- the moments of the Starts after one more event, and those of the Finishes
abbrev pub starts_after : Event → List ℕ → List ℕ
starts_after (Start op worker at) xs = slice_set xs op at
starts_after (Finish op worker at front) xs = xs
starts_after (Halt worker) xs = xs

abbrev pub finishes_after : Event → List ℕ → List ℕ
finishes_after (Start op worker at) xs = xs
finishes_after (Finish op worker at front) xs = slice_set xs op at
finishes_after (Halt worker) xs = xs

-- the moments that are kept
abbrev pub moments_in : Heard → OpMoments
moments_in m = record { start = slice_index m.starts.items; finish = slice_index m.finishes.items }

-- a number for each of so many operations
pub record AreFor (n : ℕ) (m : Heard) : Type 0 where
  pub starts : length m.starts.items ≡ n
  pub finishes : length m.finishes.items ≡ n

-- the greater of the two
abbrev pub later : Option ℕ → ℕ → Option ℕ
later None at = Some at
later (Some most) at = Some (max most at)

-- the last Finish of the dependencies below number i
abbrev pub last_below : Schedule → (ℕ → ℕ) → ℕ → Option ℕ
last_below s finish i = greatest (map finish (filter (is_dependency s) (range_with_len 0 i)))

-- it is kept of each number up to that of operations
pub record AreLasts (s : Schedule) (finish : ℕ → ℕ) (lasts : List (Option ℕ)) : Type 0 where
  pub size : length lasts ≡ length s.steps + 1
  pub each : (i : ℕ) → i ≤ length s.steps → slice_index_or lasts i None ≡ last_below s finish i

-- what is kept of a run
pub record AreTimes (s : Schedule) (t : Times) : Type 0 where
  pub sized : AreFor (length s.steps) t.heard
  pub lasts : AreLasts s (moments_in t.heard).finish t.lasts.items
