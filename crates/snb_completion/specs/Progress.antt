-- What of a plan is started and finished.
use Rattle.std.specs.Prelude.{◌≡◌, ℕ, List, length, Bool, true, false, replicate, slice_index_or}
use Rattle.snb_history.specs.Schedule.{Schedule, IsOperation, IsBefore}

-- a schedule, and for each operation whether it is started and whether it is finished
pub record Progress : Type 0 where
  pub schedule : Schedule
  pub started : List Bool
  pub finished : List Bool

-- an operation's flag; a number that is no operation has none set
abbrev pub flag : List Bool → ℕ → Bool
flag flags k = slice_index_or flags k false

-- nothing is started
abbrev pub nothing_started : Schedule → Progress
nothing_started s =
    record {
      schedule = s;
      started = replicate (length s.steps) false;
      finished = replicate (length s.steps) false;
    }

-- the first unstarted operation of its lane
pub record IsNextInLane (p : Progress) (op : ℕ) : Type 0 where
  pub within : IsOperation p.schedule op
  pub fresh : flag p.started op ≡ false
  pub led : (j : ℕ) → IsBefore p.schedule j op → flag p.started j ≡ true

-- a started operation that isn't finished
pub record IsOpen (p : Progress) (op : ℕ) : Type 0 where
  pub within : IsOperation p.schedule op
  pub begun : flag p.started op ≡ true
  pub unfinished : flag p.finished op ≡ false
