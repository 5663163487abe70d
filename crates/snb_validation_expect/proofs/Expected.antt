-- The file of the cases of a plan is refused for nothing, and no reply in it differs.
use Rattle.std.proofs.Common.{sym, subst, List, ℕ, None, Some}
use Rattle.snb_schema.specs.Lines.{lines}
use Rattle.snb_input_lines.specs.Reading.{Says}
use Rattle.snb_workers_replay.specs.Laws.{WelcomeInOrder}
use Rattle.snb_validation_cases.specs.CaseFile.{case_language}
use Rattle.snb_validation_cases.specs.Laws.{OneCaseLine}
use Rattle.snb_validation_model.specs.CasesFile.{cases_file}
use Rattle.snb_validation_model.specs.CaseTexts.{cases_text}
use Rattle.snb_validation_expect.specs.Laws.{ExpectedAreRight}
use Rattle.snb_validation_expect.proofs.Clean.{clean}
use Rattle.snb_validation_expect.proofs.InTurn.{as_many_reads}
use Rattle.snb_validation_expect.proofs.OwnLines.{file_says, lines_are, placed}
use Rattle.snb_validation_expect.proofs.Right.{not_refused, replies_right}

-- by the laws of the order of inserts and of the lines of cases
pub expected_are_right : WelcomeInOrder → OneCaseLine → ExpectedAreRight
expected_are_right order exact base plan cases replayed e read_back few =
    let says : Says case_language None 0 (lines (cases_text cases)) (placed 2 cases) (Some tt) =
    subst (λ (ls : List (List ℕ)). Says case_language None 0 ls (placed 2 cases) (Some tt)) (sym (lines_are cases)) (file_says cases read_back) in
    record {
      clean = clean base exact (cases_text cases) few (placed 2 cases) (λ before rest x r splits. not_refused base plan cases e before rest x splits order replayed cases_file r) says;
      cases = placed 2 cases;
      said = (tt, says);
      reads = as_many_reads base plan cases e;
      found = replies_right base plan cases e;
    }
