-- What a step through the lines of a piece does to how far a reader has come, and to the sink.
-- Cited by contracts of private functions alone.
use Rattle.std.specs.Prelude.{◌⊎◌, ◌+◌, ℕ, List, Option}
use Rattle.snb_schema.specs.declared.fault.Fault.{Fault}
use Rattle.snb_schema.specs.declared.fault.Fault.TheVariants.{Bad, Memory}
use Rattle.snb_schema.specs.declared.fault.LineFault.{LineFault}
use Rattle.snb_schema.specs.declared.fault.LineFault.TheVariants as why
use Rattle.snb_schema.specs.declared.file.FileId.{FileId}
use Rattle.snb_schema.specs.declared.refusal.Refusal.{Refusal}
use Rattle.snb_schema.specs.declared.refusal.Refusal.TheVariants.{BadLine}
use Rattle.snb_input_lines.specs.Language.{Language}
use Rattle.snb_input_lines.specs.Reading.{EndsBad, LineSays, ReadsLine, ReadsSome, RefusesLine, Says, Stops}
use Rattle.snb_input_lines.specs.Sinks.{Refuses, Runs, Takes}
use Rattle.snb_input_lines.specs.declared.progress.Progress.{Progress}

-- the line of this number, which has a byte, is read, and the sink has its items
abbrev pub TextTaken : {S K T : Type 0} → Language K T → Takes S T → FileId → ℕ → List ℕ
    → Progress K → S → Progress K → S → Type 0
TextTaken {T = T} g takes file number line old had new has =
    (items : List T) × LineSays g old.known number line items new.known
    × Runs takes file had items has

-- the next line is read, and the sink has its items
abbrev pub LineTaken : {S K T : Type 0} → Language K T → Takes S T → FileId → List ℕ → Progress K
    → S → Progress K → S → Type 0
LineTaken {T = T} g takes file line old had new has =
    (items : List T) × ReadsLine g old.known (old.ended + 1) line items new.known
    × Runs takes file had items has

-- the next line is refused so
abbrev pub LineRefused : {S K T : Type 0} → Language K T → Refuses S T → FileId → List ℕ
    → Progress K → S → Refusal → Type 0
LineRefused g refuses file line old had r =
    RefusesLine g refuses file old.known had (old.ended + 1) line r

-- the next lines are read, and the sink has their items
abbrev pub LinesTaken : {S K T : Type 0} → Language K T → Takes S T → FileId → List (List ℕ)
    → Progress K → S → Progress K → S → Type 0
LinesTaken {T = T} g takes file lines old had new has =
    (items : List T) × Says g old.known old.ended lines items new.known
    × Runs takes file had items has

-- one of the next lines is refused so, and the sink has the items of those before it
abbrev pub LinesStopped : {S K T : Type 0} → Language K T → Takes S T → Refuses S T
    → (S → S → Type 0) → FileId → List (List ℕ) → Progress K → S → S → Refusal → Type 0
LinesStopped {S} {K} {T} g takes refuses same file lines old had has r =
    (items : List T) × (mid : S) × Stops g takes refuses file old.known old.ended lines had items
    mid r × same mid has

-- one of the last lines is refused so or the file is, and the sink has the items of the lines
-- before that
abbrev pub FileStopped : {S K T : Type 0} → Language K T → Takes S T → Refuses S T
    → (S → S → Type 0) → (S → FileId → Option Refusal) → FileId → List (List ℕ) → Progress K → S → S
    → Refusal → Type 0
FileStopped {S} {K} {T} g takes refuses same ends file lines old had has r =
    (items : List T) × (mid : S)
    × (Stops g takes refuses file old.known old.ended lines had items mid r
    ⊎ EndsBad g takes ends file old.known old.ended lines had items mid r)
    × same mid has

-- memory ran out in the next lines, and the sink has the items of a first few of them
abbrev pub LinesRunOut : {S K T : Type 0} → Language K T → Takes S T → (S → S → Type 0) → FileId
    → List (List ℕ) → Progress K → S → S → Type 0
LinesRunOut {S} {K} {T} g takes same file lines old had has =
    (items : List T) × (mid : S) × ReadsSome g takes file old.known old.ended lines had items mid
    × same mid has

-- the fault of a file whose line of this number is refused so
abbrev pub fault_of : FileId → ℕ → LineFault → Fault
fault_of file line (why.Bad column) = Bad (BadLine file line column)
fault_of file line why.Memory = Memory
