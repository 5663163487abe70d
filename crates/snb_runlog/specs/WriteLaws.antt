-- Laws of a log that is written, and written again.
use Rattle.std.specs.Prelude.{◌≡◌, ◌≤◌, ℕ, List, All, IfSome, map}
use Rattle.snb_history.specs.declared.logged.Header.{Header}
use Rattle.snb_history.specs.declared.logged.Logged.{Logged}
use Rattle.snb_history.specs.RunTexts.{first_header, first_log_text, header_of, log_text}
use Rattle.snb_schema.specs.declared.limits.TheConstants.{MAX_WORKERS}
use Rattle.snb_runlog.specs.declared.columns.TheConstants.{LAST_VERSION, MAX_NUMBER}
use Rattle.snb_runlog.specs.Columns.{CanBeLogged, HasCount, HasOperations}
use Rattle.snb_runlog.specs.Laws.{IsLog, ReadsBack}

-- so with the log of a run
abbrev pub RunReadsBack : Type 0
RunReadsBack =
    (workers operations : ℕ) (logged : List Logged) → 1 ≤ workers → workers ≤ MAX_WORKERS
    → operations ≤ MAX_NUMBER
    → All (CanBeLogged LAST_VERSION) logged → ReadsBack (header_of workers operations) logged

-- what a log says, whatever its text, is written as a log that says the same
abbrev pub LogIsWrittenAgain : Type 0
LogIsWrittenAgain =
    (text : List ℕ) (logged : List Logged) (head : Header) → IsLog text head logged
    → ReadsBack head logged

-- where a log is of the last version, so it is with the log of a run of its workers, of a plan with
-- its operations
abbrev pub LastIsWrittenAgain : Type 0
LastIsWrittenAgain =
    (text : List ℕ) (logged : List Logged) (head : Header) → IsLog text head logged
    → head.version ≡ LAST_VERSION
    → (operations : ℕ) × (head ≡ header_of head.workers operations)
    × IsLog (log_text head.workers operations logged) head logged

-- where it is of version 1, so it is with the log of version 1 of its workers and its history
abbrev pub FirstIsWrittenAgain : Type 0
FirstIsWrittenAgain =
    (text : List ℕ) (logged : List Logged) (head : Header) → IsLog text head logged
    → head.version ≡ 1
    → (head ≡ first_header head.workers)
    × IsLog (first_log_text head.workers (map (λ l. l.event) logged)) head logged

-- the same events one by one, with a count of rows exactly at each Finish
pub record AddsCounts (logged more : List Logged) : Type 0 where
  pub events : map (λ l. l.event) more ≡ map (λ l. l.event) logged
  pub counted : All (HasCount LAST_VERSION) more
  pub small : All (λ l. IfSome l.rows (λ n. n ≤ MAX_NUMBER)) more

-- a log of version 1 is one of the last version without its counts: whatever counts are added, it
-- is read back with those
abbrev pub FirstLacksCounts : Type 0
FirstLacksCounts =
    (text : List ℕ) (logged : List Logged) (head : Header) → IsLog text head logged
    → head.version ≡ 1
    → (operations : ℕ) (more : List Logged) → operations ≤ MAX_NUMBER → AddsCounts logged more
    → ReadsBack (header_of head.workers operations) more

-- a log has counts of rows exactly at each Finish of the last version, and a count of operations
-- exactly in the last version
abbrev pub WhereCountsAre : Type 0
WhereCountsAre =
    (text : List ℕ) (logged : List Logged) (head : Header) → IsLog text head logged
    → HasOperations head × All (HasCount head.version) logged

-- the limits of a log
pub record LogLimits : Type 0 where
  pub versions : LAST_VERSION ≡ 2
  pub numbers : MAX_NUMBER ≡ 4294967295
