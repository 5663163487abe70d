-- What takes the cases of a file. Cited by contracts of private functions, and by the private
-- file_sink.
use Rattle.std.specs.Prelude.{◌≡◌, ◌+◌, ℕ, List, [], ◌∷◌, None}
use Rattle.snb_schema.specs.declared.file.FileId.{FileId}
use Rattle.snb_schema.specs.declared.refusal.Refusal.{Refusal}
use Rattle.snb_schema.specs.declared.row.Row.{Row}
use Rattle.snb_graph_model.specs.Soundness.{Sound}
use Rattle.snb_input_lines.specs.Sinks.{Refuses, SinkMeaning}
use Rattle.snb_input_files.specs.Format.{AreTakers, Lawful, Stage}
use Rattle.snb_validation_cases.specs.declared.case.CaseAt.{CaseAt}
use Rattle.snb_validation_cases.specs.CaseFile.{case_language}
use Rattle.snb_validation_model.specs.CasesFile.{IsCaseAmiss, IsCaseRefused, case_format, said_cases}
use Rattle.snb_validation_model.specs.Checks.{Finds, IsAfterCases, count_reads}
use Rattle.snb_validation_model.specs.Steps.{Checked, HasText, Steps}

-- a checker, and how many reads it took
pub record Counted : Type 0 where
  pub checked : Checked
  pub reads : ℕ

-- a case that isn't refused is taken by the checker, whose graph stays sound, and is counted where
-- it is a read
pub record TakesCase (old : Counted) (file : FileId) (x : CaseAt) (new : Counted) : Type 0 where
  pub steps : Steps old.checked x.case x.line new.checked
  pub fine : (r : Refusal) → ¬ IsCaseRefused old.checked.graph file x r
  pub sound : Sound new.checked.graph
  pub counted : new.reads ≡ old.reads + count_reads (x ∷ [])

-- and one that is refused isn't
abbrev pub RefusesCase : Refuses Counted CaseAt
RefusesCase old file x r = IsCaseRefused old.checked.graph file x r

-- it has taken these cases, and began with this graph
pub record HasTaken (base : List Row) (s : Counted) (cases : List CaseAt) : Type 0 where
  pub after : IsAfterCases base cases s.checked.graph
  pub sound : Sound s.checked.graph
  pub reads : s.reads ≡ count_reads cases
  pub found : Finds base cases s.checked.first

-- it has taken the cases of the files before and these of this file so far
abbrev pub IsHeard : List Row → Counted → List (List CaseAt) → List CaseAt → Type 0
IsHeard base s done mine = HasTaken base s (said_cases done mine)

-- over each base the format is lawful
abbrev pub CasesAreLawful : Type 0
CasesAreLawful = (base : List Row) → Lawful (case_format base)

-- what takes cases
abbrev pub case_sink : SinkMeaning Counted CaseAt
case_sink = record {
  fits = λ x. HasText x.case;
  takes = TakesCase;
  refuses = RefusesCase;
  same = λ old new. new ≡ old;
  ends = λ s file. None;
  turns = λ old new. new ≡ old;
}

-- the stage of a file of cases: a case is refused by the graph with which the file was begun
abbrev pub case_stage : Stage Counted (Unit {0}) CaseAt
case_stage = record {
  grammar_of = λ file. tt;
  limit = None;
  own = λ begun. IsCaseAmiss begun.checked.graph;
  bare = λ file items. None;
  heard = λ begun. IsHeard begun.checked.graph;
}

-- what takes cases is a file_sink of their files
abbrev pub AreCaseTakers : Type 0
AreCaseTakers = AreTakers (λ _. case_language) case_stage case_sink
