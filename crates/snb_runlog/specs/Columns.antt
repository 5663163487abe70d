-- The table of the columns of a log, and the numbers that a header and an event have in them.
use Rattle.std.specs.Prelude.{◌≡◌, ◌≤◌, ◌==◌, ◌↔◌, ℕ, List, [], ◌∷◌, ◌++◌, Option, None, Some, IsSome, codes, if◌then◌else◌}
use Rattle.snb_history.specs.declared.event.Event.{Event}
use Rattle.snb_history.specs.declared.event.Event.TheVariants.{Start, Finish, Halt}
use Rattle.snb_history.specs.declared.logged.Header.{Header}
use Rattle.snb_history.specs.declared.logged.Logged.{Logged}
use Rattle.snb_schema.specs.declared.limits.TheConstants.{MAX_AT, MAX_WORKERS}
use Rattle.snb_runlog.specs.declared.columns.EventKind.{EventKind}
use Rattle.snb_runlog.specs.declared.columns.EventKind.TheVariants as kinds
use Rattle.snb_runlog.specs.declared.columns.TheConstants.{LAST_VERSION, MAX_NUMBER}

-- the name with which a log begins
abbrev pub log_name : List ℕ
log_name = codes "snblog"

-- A column is the least and the greatest number that it may have.

-- the column of the version, which follows the name of a header
abbrev pub version_column : ℕ × ℕ
version_column = (1, LAST_VERSION)

-- the columns of counts of a log of this version: of operations in its header, and of rows at a
-- Finish
abbrev pub count_columns : ℕ → List (ℕ × ℕ)
count_columns version = if version == LAST_VERSION then (0, MAX_NUMBER) ∷ [] else []

-- the columns that follow the version of a header of this version: the workers, and the operations
-- where they are counted
abbrev pub header_columns : ℕ → List (ℕ × ℕ)
header_columns version = (1, MAX_WORKERS) ∷ count_columns version

-- the columns that follow the letter of a line of this kind, in a log of this version: the
-- operation, the worker, the moment, the front, and the rows where they are counted; a Halt has its
-- worker alone
abbrev pub event_columns : ℕ → EventKind → List (ℕ × ℕ)
event_columns version kinds.Start = (0, MAX_NUMBER) ∷ (0, MAX_NUMBER) ∷ (0, MAX_AT) ∷ []
event_columns version kinds.Finish =
    (0, MAX_NUMBER) ∷ (0, MAX_NUMBER) ∷ (0, MAX_AT) ∷ (0, MAX_NUMBER) ∷ count_columns version
event_columns version kinds.Halt = (0, MAX_NUMBER) ∷ []

-- the letter that a line of this kind begins with
abbrev pub letter_of : EventKind → List ℕ
letter_of kinds.Start = codes "S"
letter_of kinds.Finish = codes "F"
letter_of kinds.Halt = codes "H"

-- which of the three an event is
abbrev pub event_kind_of : Event → EventKind
event_kind_of (Start op worker at) = kinds.Start
event_kind_of (Finish op worker at front) = kinds.Finish
event_kind_of (Halt worker) = kinds.Halt

-- the number of a count, where there is one
abbrev pub count_numbers : Option ℕ → List ℕ
count_numbers None = []
count_numbers (Some n) = n ∷ []

-- the numbers of an event, in the order of its columns
abbrev pub event_numbers : Event → List ℕ
event_numbers (Start op worker at) = op ∷ worker ∷ at ∷ []
event_numbers (Finish op worker at front) = op ∷ worker ∷ at ∷ front ∷ []
event_numbers (Halt worker) = worker ∷ []

-- and of what a line tells
abbrev pub numbers_of : Logged → List ℕ
numbers_of logged = event_numbers logged.event ++ count_numbers logged.rows

-- the numbers of a header, in the order of its columns
abbrev pub header_numbers : Header → List ℕ
header_numbers head = head.version ∷ head.workers ∷ count_numbers head.operations

-- there is a number for each column, from the least to the greatest of the column
abbrev pub AreWithin : List (ℕ × ℕ) → List ℕ → Type 0
AreWithin [] [] = Unit {0}
AreWithin (c ∷ cs) (n ∷ ns) = (c.0 ≤ n) × (n ≤ c.1) × AreWithin cs ns
AreWithin _ _ = ⊥

-- what a line of a log of this version can tell
abbrev pub CanBeLogged : ℕ → Logged → Type 0
CanBeLogged version logged =
    AreWithin (event_columns version (event_kind_of logged.event)) (numbers_of logged)

-- a header that a log can have
abbrev pub CanBeHeader : Header → Type 0
CanBeHeader head = AreWithin (version_column ∷ header_columns head.version) (header_numbers head)

-- there is a count of rows exactly at a Finish of the last version
abbrev pub HasCount : ℕ → Logged → Type 0
HasCount version logged =
    IsSome logged.rows ↔ ((version ≡ LAST_VERSION) × (event_kind_of logged.event ≡ kinds.Finish))

-- and of operations exactly in a header of the last version
abbrev pub HasOperations : Header → Type 0
HasOperations head = IsSome head.operations ↔ (head.version ≡ LAST_VERSION)
