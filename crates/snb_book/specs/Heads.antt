-- The heads of a schedule's lanes. Cited by contracts of private functions alone.
use Rattle.std.specs.Prelude.{◌≡◌, ℕ, ◌<◌, ◌≤◌, nat_lt, true, false, List, length, Bool, Option, Some, None, slice_index_or, if◌then◌else◌, MatchOption}
use Rattle.snb_history.specs.declared.event.Event.{Event}
use Rattle.snb_history.specs.declared.step.Step.{Step}
use Rattle.snb_history.specs.Schedule.{Schedule, no_step, step_of, IsOperation, IsBefore, IsInForum}
use Rattle.snb_history.specs.Rules.{LaneIsFinished}
use Rattle.snb_completion.specs.Progress.{flag}
use Rattle.snb_book.specs.declared.book.Firsts.{Firsts}
use Rattle.snb_book.specs.Book.{IsNext}
use Rattle.snb_book.specs.Claims.{IsAdmitted, IsFirst, IsPlanHead}

-- the operation stands at this place of the lane
pub record IsAtPlace (s : Schedule) (lane place k : ℕ) : Type 0 where
  pub within : IsOperation s k
  pub in_lane : (step_of s k).lane ≡ lane
  pub placed : (step_of s k).place ≡ place

-- all of the lane stands before this place
pub record IsPassed (s : Schedule) (lane place : ℕ) : Type 0 where
  pub before : (k : ℕ) → IsOperation s k → (step_of s k).lane ≡ lane → (step_of s k).place < place

-- j is the last operation before op, in a forum lane
pub record IsPredecessor (s : Schedule) (op j : ℕ) : Type 0 where
  pub forum : IsInForum s op
  pub before : IsBefore s j op
  pub last : (i : ℕ) → IsBefore s i op → i ≤ j

-- op stands in no forum lane, or is the first of it
pub record HasNoPredecessor (s : Schedule) (op : ℕ) : Type 0 where
  pub none : IsInForum s op → (j : ℕ) → ¬ IsBefore s j op

-- the flag of the operation before it in its forum lane is set, where there is one
abbrev pub IsFree : Schedule → List Bool → ℕ → Type 0
IsFree s finished op = (j : ℕ) → IsPredecessor s op j → flag finished j ≡ true

-- the operation is no dependent, or its t_d is below the least t that is waited for
abbrev pub IsWithin : Schedule → ℕ → ℕ → Type 0
IsWithin s least k = (step_of s k).dependent ≡ true → (step_of s k).t_d < least

-- when an operation is due
abbrev pub due_at : List Step → ℕ → ℕ
due_at steps k = (slice_index_or steps k no_step).due

-- the one that is due earlier
abbrev pub earlier_of : List Step → Option ℕ → ℕ → ℕ
earlier_of steps None op = op
earlier_of steps (Some best) op = if nat_lt (due_at steps op) (due_at steps best) then op else best

-- that one, where the operation counts
abbrev pub earlier_where : List Step → Option ℕ → ℕ → Bool → Option ℕ
earlier_where steps first op counts = if counts then Some (earlier_of steps first op) else first

-- the first of those with the property, or that there is none
abbrev pub TellsFirst : Schedule → (ℕ → Type 0) → Option ℕ → Type 0
TellsFirst s P first = MatchOption first ((j : ℕ) → ¬ P j) (IsFirst s P)

-- that of the lanes below n
abbrev pub TellsFirstBelow : Schedule → (ℕ → Type 0) → ℕ → Option ℕ → Type 0
TellsFirstBelow s P n first = TellsFirst s (λ j. P j × ((step_of s j).lane < n)) first

-- at the places that are kept, in the lanes below n: the first of all, of those that are free, and
-- of those of them that are within
pub record AreFirstsBelow (s : Schedule) (heads : List ℕ) (finished : List Bool) (least n : ℕ)
    (firsts : Firsts) : Type 0 where
  pub all : TellsFirstBelow s (IsNext s heads) n firsts.all
  pub free : TellsFirstBelow s (λ j. IsNext s heads j × IsFree s finished j) n firsts.free
  pub ready : TellsFirstBelow s (λ j. IsNext s heads j × IsFree s finished j × IsWithin s least j) n
      firsts.ready

-- the first head, the first that isn't busy, and the first that may start
pub record AreFirsts (s : Schedule) (h : List Event) (firsts : Firsts) : Type 0 where
  pub all : TellsFirst s (IsPlanHead s h) firsts.all
  pub free : TellsFirst s (λ j. IsPlanHead s h j × LaneIsFinished s h j) firsts.free
  pub ready : TellsFirst s (λ j. IsPlanHead s h j × IsAdmitted s h j) firsts.ready

-- there is no such operation, or it is due later
abbrev pub IsLate : Schedule → ℕ → Option ℕ → Type 0
IsLate s at first = (op : ℕ) → first ≡ Some op → at < (step_of s op).due

-- nobody has the operation in hand
abbrev pub HasNobody : List (Option ℕ) → ℕ → Type 0
HasNobody held op = (w : ℕ) → w < length held → ¬ (slice_index_or held w None ≡ Some op)

-- the worker has the operation in hand
abbrev pub IsWith : List (Option ℕ) → ℕ → ℕ → Type 0
IsWith held op worker = (worker < length held) × (slice_index_or held worker None ≡ Some op)

-- the flags below n are set
abbrev pub AreSet : List Bool → ℕ → Type 0
AreSet flags n = (k : ℕ) → k < n → flag flags k ≡ true

-- the flag isn't set, and those before it are
abbrev pub IsFirstUnset : List Bool → ℕ → Type 0
IsFirstUnset flags k = (k < length flags) × (flag flags k ≡ false) × AreSet flags k
