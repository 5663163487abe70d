-- Laws of the cases of a plan.
use Rattle.std.specs.Prelude.{◌≤◌, List, None, Some, length}
use Rattle.snb_schema.specs.declared.limits.TheConstants.{MAX_BYTES}
use Rattle.snb_schema.specs.declared.row.Row.{Row}
use Rattle.snb_plan.specs.Plans.{Plan, queries_in}
use Rattle.snb_workers_replay.specs.Laws.{IsReplayed}
use Rattle.snb_validation_cases.specs.declared.case.Case.{Case}
use Rattle.snb_validation_model.specs.CasesFile.{IsTally}
use Rattle.snb_validation_model.specs.CaseTexts.{cases_text}
use Rattle.snb_validation_model.specs.Expected.{AreExpected, AreReadBack}

-- over a base over which the plan's updates are closed, nothing is wrong with the file of the
-- plan's cases, each of which is read from its line, and no reply in it differs
abbrev pub ExpectedAreRight : Type 0
ExpectedAreRight =
    (base : List Row) (plan : Plan) (cases : List Case) → IsReplayed base plan
    → AreExpected base plan cases → AreReadBack cases
    → length (cases_text cases) ≤ MAX_BYTES
    → IsTally base (Some (cases_text cases))
    (record { reads = length (queries_in plan); first = None })
