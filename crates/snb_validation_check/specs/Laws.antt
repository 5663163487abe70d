-- Laws of checked cases.
use Rattle.std.specs.Prelude.{◌≡◌, ◌∷◌, ◌++◌, ℕ, List, Option}
use Rattle.snb_schema.specs.declared.refusal.Refusal.{Refusal}
use Rattle.snb_schema.specs.declared.query.Query.{Query}
use Rattle.snb_schema.specs.declared.row.Row.{Row}
use Rattle.snb_read_model.specs.Cells.{ByteCell}
use Rattle.snb_read_model.specs.Replies.{IsReply}
use Rattle.snb_base.specs.FirstOf.{FirstOf, NoneOf}
use Rattle.snb_validation_cases.specs.declared.case.CaseAt.{CaseAt}
use Rattle.snb_validation_model.specs.declared.difference.Difference.{Difference}
use Rattle.snb_validation_model.specs.declared.tally.Tally.{Tally}
use Rattle.snb_validation_model.specs.CasesFile.{IsTally, cases_checks}
use Rattle.snb_validation_model.specs.Checks.{AreRight, Finds, IsAfterCases, ask_at}

-- over one base a file of cases is refused for one thing at most
abbrev pub CasesRefuseOnce : Type 0
CasesRefuseOnce =
    (base : List Row) (held : Option (List ℕ)) (r q : Refusal) → FirstOf (cases_checks base held) r
    → FirstOf (cases_checks base held) q → r ≡ q

-- where it is refused, something is wrong with it
abbrev pub CasesRefusedOrNot : Type 0
CasesRefusedOrNot =
    (base : List Row) (held : Option (List ℕ)) (r : Refusal) → FirstOf (cases_checks base held) r
    → ¬ NoneOf (cases_checks base held)

-- what is found over cases is one
abbrev pub FindingIsOne : Type 0
FindingIsOne =
    (base : List Row) (cases : List CaseAt) (a b : Option Difference) → Finds base cases a
    → Finds base cases b → a ≡ b

-- where all replies are right, each is the one on each graph that is the base with the inserts
-- before its case
abbrev pub RightOnEach : Type 0
RightOnEach =
    (base : List Row) (cases : List CaseAt) → AreRight base cases → (before rest : List CaseAt)
    (line : ℕ) (query : Query) (reply : List (List (List ByteCell))) (graph : List Row)
    → before ++ ask_at line query reply ∷ rest ≡ cases → IsAfterCases base before graph
    → IsReply graph query reply

-- what is told of a file of cases is one
abbrev pub TallyIsOne : Type 0
TallyIsOne =
    (base : List Row) (held : Option (List ℕ)) (t u : Tally) → IsTally base held t
    → IsTally base held u → t ≡ u
