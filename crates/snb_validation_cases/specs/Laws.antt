-- Laws of cases.
use Rattle.std.specs.Prelude.{◌≡◌, ℕ, List}
use Rattle.snb_input_lines.specs.Laws.{IsExact}
use Rattle.snb_validation_cases.specs.declared.case.Case.{Case}
use Rattle.snb_validation_cases.specs.CaseFile.{case_language}
use Rattle.snb_validation_cases.specs.Cases.{SpellsCase}

-- a text spells one case at most
abbrev pub OneCase : Type 0
OneCase =
    (text : List ℕ) (one other : Case) → SpellsCase text one → SpellsCase text other → one ≡ other

-- a line says one thing at most, or has a bad column
abbrev pub OneCaseLine : Type 0
OneCaseLine = IsExact case_language

-- a header has one bad column at most
abbrev pub OneHeaderColumn : Type 0
OneHeaderColumn =
    (line : List ℕ) (a b : ℕ) → case_language.bad_header line a → case_language.bad_header line b
    → a ≡ b

-- and so has a later line
abbrev pub OneCaseColumn : Type 0
OneCaseColumn =
    (line : List ℕ) (a b : ℕ) → case_language.bad_line tt line a → case_language.bad_line tt line b
    → a ≡ b
