-- What is found of the rules, one by one. Cited by contracts of private functions alone.
use Rattle.std.specs.Prelude.{◌≡◌, ℕ, ◌<◌, List, [], ◌∷◌, ◌++◌, length, Bool, false, Option, Some, None, slice_index, slice_index_or}
use Rattle.std.specs.List.{position_or_len}
use Rattle.snb_history.specs.declared.event.Event.{Event}
use Rattle.snb_history.specs.declared.event.Event.TheVariants.{Start, Finish, Halt}
use Rattle.snb_history.specs.Schedule.{Schedule, IsOperation}
use Rattle.snb_history.specs.History.{starts, halted, hand}
use Rattle.snb_history.specs.Rules.{Fits}
use Rattle.snb_history.specs.Violation.{Told}
use Rattle.snb_book.specs.Kept.{Kept}
use Rattle.snb_auditor.specs.declared.auditor.Values.{Values}
use Rattle.snb_auditor.specs.declared.verdict.Violation.{Violation}
use Rattle.snb_auditor.specs.Verdicts.{IsViolation}

-- the rule holds, or else it doesn't and these are the values that are told of it
abbrev pub Finds : Type 0 → Told → Option Values → Type 0
Finds Holds told None = Holds
Finds Holds told (Some v) = (¬ Holds) × (record { needs = v.needs; found = v.found } ≡ told)

-- the event fits the book, or else this is its violation
abbrev pub Judges : Kept → Event → Option Violation → Type 0
Judges b e None = Fits b.schedule b.workers b.history e
Judges b e (Some v) = IsViolation b.schedule b.workers b.history e v

-- of each worker whether it has halted
pub record AreStopped (b : Kept) (stopped : List Bool) : Type 0 where
  pub each : length stopped ≡ b.workers
  pub flags : (w : ℕ) → w < b.workers → slice_index_or stopped w false ≡ halted b.history w

-- of each worker the number of the Start of what it has in hand
pub record AreBegun (b : Kept) (begun : List ℕ) : Type 0 where
  pub each : length begun ≡ b.workers
  pub numbers : (w k : ℕ) → w < b.workers → hand b.history w ≡ Some k
      → slice_index begun w ≡ position_or_len (starts k) b.history

-- the book with one more event
abbrev pub and_then : Kept → Event → Kept
and_then b e = record b { history = b.history ++ e ∷ [] }

-- a Start is that of an operation of the plan
abbrev pub IsStartWithin : Schedule → Event → Type 0
IsStartWithin s (Start op worker at) = IsOperation s op
IsStartWithin s (Finish op worker at front) = Unit {0}
IsStartWithin s (Halt worker) = Unit {0}
