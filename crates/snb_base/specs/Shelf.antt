-- What a shelf holds, and what a call of `read` answers.
use Rattle.std.specs.Prelude.{◌≡◌, ℕ, ◌+◌, ◌-◌, ◌^◌, ◌≤◌, min, Bool, true, false, List, length, take, drop, Option, Some, None}
use Rattle.snb_base.specs.declared.shelf.Got.{Got}
use Rattle.snb_base.specs.declared.shelf.Got.TheVariants.{Took, Absent, Failed}

-- the bytes of each name that is held
abbrev pub Files : Type 0
Files = List ℕ → Option (List ℕ)

-- a count of faults rose: it is greater by one at least, as far as 64 bits go
abbrev pub Rose : ℕ → ℕ → Type 0
Rose old new = min (old + 1) (2 ^ 64 - 1) ≤ new

-- what came of a count of faults over a call that says whether the outside failed: it rose where it
-- did, and else is as it was
abbrev pub Counts : Bool → ℕ → ℕ → Type 0
Counts true old new = Rose old new
Counts false old new = new ≡ old

-- a call counts a fault where it says that the outside failed, and forgets none
pub record HasCounted (failed : Bool) (faults faults_after : ℕ) : Type 0 where
  pub later : faults ≤ faults_after
  pub told : Counts failed faults faults_after

-- the names that a shelf may be asked for
abbrev pub Names : Type 0
Names = List ℕ → Bool

-- each name may be asked for
abbrev pub any_name : Names
any_name name = true

-- what a call that reads does to a shelf, by its contents, its names and its count of faults before
-- and after it: it changes nothing that is held nor which names it may be asked for, counts a fault
-- where it says that the outside failed, and forgets none
pub record HasRead (failed : Bool) (files : Option Files) (may : Names) (faults : ℕ)
    (files_after : Option Files) (may_after : Names) (faults_after : ℕ) : Type 0 where
  pub same : files_after ≡ files
  pub names : may_after ≡ may
  pub later : faults ≤ faults_after
  pub told : Counts failed faults faults_after

-- whether the outside failed at a call of `read`
abbrev pub is_failed : Got → Bool
is_failed (Took count) = false
is_failed Absent = false
is_failed Failed = true

-- what was read is within the buffer
abbrev pub FitsBuffer : ℕ → Got → Type 0
FitsBuffer room (Took count) = count ≤ room
FitsBuffer room Absent = Unit {0}
FitsBuffer room Failed = Unit {0}

-- the first `count` bytes of the buffer are those of the file from `at` on, and they are none only
-- where the file ends there
pub record IsPiece (file : List ℕ) (at count : ℕ) (buffer : List ℕ) : Type 0 where
  pub bytes : take count buffer ≡ take count (drop at file)
  pub ends : count ≡ 0 → length file ≤ at

-- what a call of `read` may answer over these files
abbrev pub IsReading : Files → List ℕ → ℕ → List ℕ → Got → Type 0
IsReading files name at buffer (Took count) =
    (file : List ℕ) × (files name ≡ Some file) × IsPiece file at count buffer
IsReading files name at buffer Absent = files name ≡ None
IsReading files name at buffer Failed = Unit {0}
