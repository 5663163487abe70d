-- The lines of a file of cases: the header, and the text of each case, by which they say the cases.
use Rattle.std.proofs.Common.{◌≡◌, ◌∷◌, ◌∙◌, ◌+◌, ℕ, List, [], All, map, false, None, Some, refl, ap, append_assoc}
use Rattle.std.proofs.lemmas.List.Elements.{All-head, All-tail}
use Rattle.std.specs.List.{flat_map}
use Rattle.serde_json.specs.Data.{Data, array, boolean, null, number, object, string}
use Rattle.serde_json.specs.Written.{compact_text, members_text}
use Rattle.snb_schema.specs.Lines.{begins_with_mark, lines}
use Rattle.snb_input_lines.specs.Reading.{ReadsLine, Says}
use Rattle.snb_input_lines.proofs.Laws.{ended}
use Rattle.snb_validation_cases.specs.declared.case.Case.{Case}
use Rattle.snb_validation_cases.specs.declared.case.Case.TheVariants.{Insert, Ask}
use Rattle.snb_validation_cases.specs.declared.case.CaseAt.{CaseAt}
use Rattle.snb_validation_cases.specs.CaseFile.{case_language}
use Rattle.snb_validation_cases.specs.Cases.{SpellsCase}
use Rattle.snb_validation_model.specs.CaseTexts.{case_data, case_line, case_text, cases_text}
use Rattle.snb_validation_expect.proofs.Header.{header, header_one_line, header_read, header_utf8}
use Rattle.snb_validation_expect.proofs.OneLine.{text_one_line}

-- ---- cutting

-- the lines of cases
case_lines : (cases : List Case) → lines (flat_map case_line cases) ≡ map case_text cases
case_lines [] = refl
case_lines (c ∷ cases) =
    ap lines (append_assoc (case_text c) (10 ∷ []) (flat_map case_line cases))
    ∙ (ended (case_text c) (flat_map case_line cases) (text_one_line (case_data c)) ∙ ap (λ (ls : List (List ℕ)). case_text c ∷ ls) (case_lines cases))

-- the lines of the file of the cases
pub lines_are : (cases : List Case) → lines (cases_text cases) ≡ header ∷ map case_text cases
lines_are cases = ended header (flat_map case_line cases) header_one_line ∙ ap (λ (ls : List (List ℕ)). header ∷ ls) (case_lines cases)

-- ---- saying

-- the cases, each at its line, the first at the line of this number
abbrev pub placed : ℕ → List Case → List CaseAt
placed n [] = []
placed n (c ∷ cases) = record { line = n; case = c } ∷ placed (n + 1) cases

-- a text that begins with a brace has no byte order mark
unmarked : (rest : List ℕ) → begins_with_mark (123 ∷ rest) ≡ false
unmarked [] = refl
unmarked (a ∷ []) = refl
unmarked (a ∷ b ∷ rest) = refl

-- the value is an object
abbrev IsObject : Data → Type 0
IsObject (object held) = Unit {0}
IsObject other = ⊥

-- the line of an object that spells a case says it
object_says : (d : Data) → IsObject d → (n : ℕ) (c : Case) → SpellsCase (compact_text d) c → ReadsLine case_language (Some tt) n (compact_text d) (record { line = n; case = c } ∷ []) (Some tt)
object_says (object held) is n c spells = ((unmarked (members_text false held), spells.0), (record { line = n; case = c }, (spells, refl), refl, refl))
object_says null is n c spells = absurd is
object_says (boolean b) is n c spells = absurd is
object_says (number x) is n c spells = absurd is
object_says (string s) is n c spells = absurd is
object_says (array ds) is n c spells = absurd is

-- the line of a case says it
line_says : (n : ℕ) (c : Case) → SpellsCase (case_text c) c → ReadsLine case_language (Some tt) n (case_text c) (record { line = n; case = c } ∷ []) (Some tt)
line_says n (Insert line) spells = object_says (case_data (Insert line)) tt n (Insert line) spells
line_says n (Ask query reply) spells = object_says (case_data (Ask query reply)) tt n (Ask query reply) spells

-- and the lines of cases say them
cases_say : (cases : List Case) (n : ℕ) → All (λ c. SpellsCase (case_text c) c) cases → Says case_language (Some tt) n (map case_text cases) (placed (n + 1) cases) (Some tt)
cases_say [] n all = (refl, refl)
cases_say (c ∷ cases) n all = (
  record { line = n + 1; case = c } ∷ [],
  placed (n + 1 + 1) cases,
  Some tt,
  line_says (n + 1) c (All-head (λ x. SpellsCase (case_text x) x) c cases all),
  cases_say cases (n + 1) (All-tail (λ x. SpellsCase (case_text x) x) c cases all),
  refl,
)

-- the lines say the cases, from line 2 on
pub file_says : (cases : List Case) → All (λ c. SpellsCase (case_text c) c) cases → Says case_language None 0 (header ∷ map case_text cases) (placed 2 cases) (Some tt)
file_says cases all = ([], placed 2 cases, Some tt, ((refl, header_utf8), (tt, header_read, refl, refl)), cases_say cases 1 all, refl)
