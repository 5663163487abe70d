-- What the loading of a file answers.
use Rattle.std.specs.Prelude.{◌≡◌, ℕ, ◌+◌, ◌≤◌, Bool, true, false, List, length, Option, Some, None, Result, Ok, Err, IfSome}
use Rattle.snb_base.specs.Shelf.{Files}
use Rattle.snb_schema.specs.declared.fault.Fault.{Fault}
use Rattle.snb_schema.specs.declared.fault.Fault.TheVariants as fault
use Rattle.snb_schema.specs.declared.fault.PlanFault.{PlanFault}
use Rattle.snb_schema.specs.declared.fault.PlanFault.TheVariants as plan_fault
use Rattle.snb_schema.specs.declared.file.FileId.{FileId}
use Rattle.snb_schema.specs.declared.limits.TheConstants.{MAX_BYTES}
use Rattle.snb_schema.specs.Lines.{lines}
use Rattle.snb_input_files.specs.declared.found.Found.{Found}
use Rattle.snb_input_files.specs.declared.found.Found.TheVariants.{Absent, Whole}
use Rattle.snb_input_files.specs.declared.load.Load.{Load}
use Rattle.snb_input_files.specs.declared.load.Load.TheVariants.{Refused, ReadFault, Memory}
use Rattle.snb_input_files.specs.declared.load.Used.{Used}
use Rattle.snb_base.specs.FirstOf.{FirstOf, NoneOf}
use Rattle.snb_input_lines.specs.Counts.{IsUnder}
use Rattle.snb_input_lines.specs.Sinks.{Heard}
use Rattle.snb_input_files.specs.Format.{Format}
use Rattle.snb_input_files.specs.Places.{FileSays, FilesSay, ReadFile, opening, counted_rows}
use Rattle.snb_input_files.specs.PlaceChecks.{file_checks}

-- whether the shelf failed
abbrev pub is_fault : Load → Bool
is_fault (Refused r) = false
is_fault ReadFault = true
is_fault Memory = false

-- whether the answer is that the shelf failed
abbrev pub is_read_fault : {A : Type 0} → Result A Load → Bool
is_read_fault (Ok a) = false
is_read_fault (Err load) = is_fault load

-- how a stop at a line stops the loading
abbrev pub load_for : Fault → Load
load_for (fault.Bad r) = Refused r
load_for fault.Memory = Memory

-- and how a fault of a plan does
abbrev pub load_for_plan : PlanFault → Load
load_for_plan (plan_fault.Refused r) = Refused r
load_for_plan plan_fault.Memory = Memory

-- this is what the shelf holds under the name, where it tells what it holds
abbrev pub IsTold : Option Files → List ℕ → Option (List ℕ) → Type 0
IsTold contents name held = IfSome contents (λ files. files name ≡ held)

-- nothing is wrong with a file of these bytes, the file_sink was told by it what it says, and its
-- data lines are counted
pub record IsTakenWhole {P K T : Type 0} (g : Format K T) (heard : Heard P T) (file : FileId)
    (bytes rows : ℕ) (past : List ReadFile) (whole : List ℕ) (file_sink : P) (new_rows : ℕ)
    : Type 0 where
  pub clean : NoneOf (file_checks g (opening file bytes rows past whole) whole)
  pub done : List (List T)
  pub mine : List T
  pub said : FilesSay g past done
  pub says : FileSays g (record { file = file; bytes = whole }) mine
  pub tells : heard file_sink done mine
  pub counted : new_rows ≡ rows + counted_rows g file (lines whole)

-- the same, and this is what the header said, by which the lines say what they say
abbrev pub IsTakenKnown : {P K T : Type 0} → Format K T → Heard P T → FileId → ℕ → ℕ → List ReadFile
    → List ℕ → P → ℕ → Option K → Type 0
IsTakenKnown g heard file bytes rows past whole file_sink new_rows known =
    (taken : IsTakenWhole g heard file bytes rows past whole file_sink new_rows)
    × (known ≡ Some taken.says.0)

-- what the loading of a file answers: it isn't held; or these are its bytes, of which nothing is
-- wrong and all is taken, or which are refused so; and where the shelf tells what it holds, that is
-- what it tells
abbrev pub IsAnswer : {P K T : Type 0} → Format K T → Heard P T → Option Files → List ℕ → FileId
    → Used → List ReadFile → P → Result (Found P) Load → Type 0
IsAnswer g heard contents name file used past file_sink (Ok (Absent new)) =
    IsTold contents name None × (new ≡ file_sink)
IsAnswer g heard contents name file used past file_sink (Ok (Whole new now)) =
    (whole : List ℕ)
    × IsTold contents name (Some whole)
    × (now.bytes ≡ used.bytes + length whole)
    × IsTakenWhole g heard file used.bytes used.rows past whole new now.rows
IsAnswer g heard contents name file used past file_sink (Err (Refused r)) =
    (whole : List ℕ)
    × IsTold contents name (Some whole)
    × FirstOf (file_checks g (opening file used.bytes used.rows past whole) whole) r
IsAnswer g heard contents name file used past file_sink (Err ReadFault) = Unit {0}
IsAnswer g heard contents name file used past file_sink (Err Memory) = Unit {0}

-- what the loading of a file answers, of which this is known in the end: the same, and this is what
-- its header said
abbrev pub IsKnownAnswer : {P K T : Type 0} → Format K T → Heard P T → Option Files → List ℕ
    → FileId → Used → List ReadFile → P → Option K → Result (Found P) Load → Type 0
IsKnownAnswer g heard contents name file used past file_sink known (Ok (Whole new now)) =
    (whole : List ℕ)
    × IsTold contents name (Some whole)
    × (now.bytes ≡ used.bytes + length whole)
    × IsTakenKnown g heard file used.bytes used.rows past whole new now.rows known
IsKnownAnswer g heard contents name file used past file_sink known result =
    IsAnswer g heard contents name file used past file_sink result

-- what was read with a file keeps within the limits
abbrev pub IsWithin : {P : Type 0} → Option ℕ → Found P → Type 0
IsWithin limit (Absent new) = Unit {0}
IsWithin limit (Whole new now) = (now.bytes ≤ MAX_BYTES) × IsUnder limit now.rows
