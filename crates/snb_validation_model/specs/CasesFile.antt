-- What a file of cases is refused for over a graph, and what is found over it.
use Rattle.std.specs.Prelude.{◌≡◌, ◌⊎◌, ℕ, List, [], ◌∷◌, ◌++◌, Option, Some, None, Result, Ok, Err}
use Rattle.std.specs.List.{flat_map}
use Rattle.snb_base.specs.Shelf.{Files}
use Rattle.snb_schema.specs.declared.file.FileId.{FileId}
use Rattle.snb_schema.specs.declared.file.FileKind.TheVariants.{Cases}
use Rattle.snb_schema.specs.declared.refusal.Missing.{Missing}
use Rattle.snb_schema.specs.declared.refusal.Refusal.{Refusal}
use Rattle.snb_schema.specs.declared.refusal.Refusal.TheVariants.{Absent, Duplicate, Unmet}
use Rattle.snb_schema.specs.declared.row.Row.{Row}
use Rattle.snb_input_files.specs.declared.load.Load.{Load}
use Rattle.snb_input_files.specs.declared.load.Load.TheVariants.{Refused, ReadFault, Memory}
use Rattle.snb_base.specs.FirstOf.{FirstOf, NoneOf}
use Rattle.snb_input_files.specs.Format.{Format, Rules}
use Rattle.snb_input_files.specs.Loading.{IsTold}
use Rattle.snb_input_files.specs.Places.{FileSays, opening}
use Rattle.snb_input_files.specs.PlaceChecks.{file_checks}
use Rattle.snb_validation_cases.specs.declared.case.CaseAt.{CaseAt}
use Rattle.snb_validation_cases.specs.CaseFile.{case_language}
use Rattle.snb_validation_model.specs.declared.tally.Tally.{Tally}
use Rattle.snb_validation_model.specs.Checks.{Finds, IsAfterCases, count_reads}
use Rattle.snb_validation_model.specs.Steps.{CaseRepeats, IsUnmet}

-- the file of cases
abbrev pub cases_file : FileId
cases_file = record { kind = Cases; part = 0 }

-- on this graph the insert of a case is refused so: a node that it refers to isn't held; or all
-- are, and so is a key that it takes
abbrev pub IsCaseRefused : List Row → FileId → CaseAt → Refusal → Type 0
IsCaseRefused graph file x r =
    ((missing : Missing) × IsUnmet graph x.case missing × (r ≡ Unmet file x.line missing))
    ⊎ (CaseRepeats graph x.case × (r ≡ Duplicate file x.line))

-- the insert of a case is refused so on the graph that is the base with the inserts of these cases
-- before it
pub record IsRefusedAfter (base : List Row) (before : List CaseAt) (file : FileId) (x : CaseAt)
    (r : Refusal) : Type 0 where
  pub graph : List Row
  pub after : IsAfterCases base before graph
  pub refused : IsCaseRefused graph file x r

-- the cases of the files before, and those of this file so far
abbrev pub said_cases : List (List CaseAt) → List CaseAt → List CaseAt
said_cases done mine = flat_map (λ file. file) done ++ mine

-- the own check of a case, over this base
abbrev pub IsCaseAmiss : List Row → FileId → List (List CaseAt) → List CaseAt → CaseAt → Refusal
    → Type 0
IsCaseAmiss base file done mine x r = IsRefusedAfter base (said_cases done mine) file x r

-- what cases are refused for over this base; there may be any number of them
abbrev pub case_rules : List Row → Rules CaseAt
case_rules base = record { limit = None; own = IsCaseAmiss base; bare = λ file items. None }

-- what a file of cases says, and what it is refused for
abbrev pub case_format : List Row → Format (Unit {0}) CaseAt
case_format base = record { language = λ file. case_language; rules = case_rules base }

-- what is tried of a file of cases, in order: whether it is held, and then what is tried of any
-- file
abbrev pub cases_checks : List Row → Option (List ℕ) → List {1} (Refusal → Type 0)
cases_checks base None = (λ r. r ≡ Absent cases_file) ∷ []
cases_checks base (Some bytes) =
    file_checks (case_format base) (opening cases_file 0 0 [] bytes) bytes

-- the file is held, and its lines say these cases
abbrev pub AreCases : List Row → Option (List ℕ) → List CaseAt → Type 0
AreCases base None cases = ⊥
AreCases base (Some bytes) cases =
    FileSays (case_format base) (record { file = cases_file; bytes = bytes }) cases

-- nothing is wrong with the file, and this is what is found over the cases that it says
pub record IsTally (base : List Row) (held : Option (List ℕ)) (t : Tally) : Type 0 where
  pub clean : NoneOf (cases_checks base held)
  pub cases : List CaseAt
  pub said : AreCases base held cases
  pub reads : t.reads ≡ count_reads cases
  pub found : Finds base cases t.first

-- what the checking of a file of cases answers: the file is what the shelf tells where it tells
-- any, and this is what is found over it, or it is refused so
abbrev pub IsCasesAnswer : Option Files → List ℕ → List Row → Result Tally Load → Type 0
IsCasesAnswer contents name base (Ok t) =
    (held : Option (List ℕ)) × IsTold contents name held × IsTally base held t
IsCasesAnswer contents name base (Err (Refused r)) =
    (held : Option (List ℕ)) × IsTold contents name held × FirstOf (cases_checks base held) r
IsCasesAnswer contents name base (Err ReadFault) = Unit {0}
IsCasesAnswer contents name base (Err Memory) = Unit {0}
