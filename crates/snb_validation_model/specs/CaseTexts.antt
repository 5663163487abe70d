-- The text of a file of cases (RFC 8259): a header, and a line for each case.
use Rattle.std.specs.Prelude.{ℕ, List, [], ◌∷◌, ◌++◌, codes}
use Rattle.std.specs.Fmt.{decimal}
use Rattle.std.specs.List.{flat_map}
use Rattle.serde_json.specs.Data.{Data, member, no_members, null, number, object, string, unsigned}
use Rattle.serde_json.specs.Written.{compact_text}
use Rattle.snb_schema.specs.declared.column.Value.{Value}
use Rattle.snb_schema.specs.declared.column.Value.TheVariants.{Digits, Letters, SmallDigits}
use Rattle.snb_schema.specs.ReadKinds.{read_kind_of, parameter_values, read_word}
use Rattle.snb_schema.specs.UpdateLines.{canonical_line}
use Rattle.snb_validation.specs.ReplyData.{array_of, reply_data}
use Rattle.snb_validation_cases.specs.declared.case.Case.{Case}
use Rattle.snb_validation_cases.specs.declared.case.Case.TheVariants.{Insert, Ask}

-- a parameter of a read: an id, a date or a year is a number, and a name a string; there are no
-- others
abbrev pub parameter_data : Value → Data
parameter_data (Digits n) = number (unsigned n)
parameter_data (SmallDigits n) = number (unsigned n)
parameter_data (Letters text) = string text
parameter_data other = null

-- an insert is an object with its canonical line, and a read one with its parameters, the word of
-- its kind, and its reply
abbrev pub case_data : Case → Data
case_data (Insert line) =
    object (member (codes "insert") (string (canonical_line line.t line.t_d line.op)) no_members)
case_data (Ask query reply) =
    object (member (codes "params") (array_of parameter_data (parameter_values query))
    (member (codes "read") (string (read_word (read_kind_of query)))
    (member (codes "reply") (reply_data reply) no_members)))

-- its compact text
abbrev pub case_text : Case → List ℕ
case_text case = compact_text (case_data case)

-- and its line
abbrev pub case_line : Case → List ℕ
case_line case = case_text case ++ 10 ∷ []

-- the text of a file of cases: the header, and the line of each case
abbrev pub cases_text : List Case → List ℕ
cases_text cases = codes "{\"cases\":1}\n" ++ flat_map case_line cases

-- how many cases there are
abbrev pub case_count_text : ℕ → List ℕ
case_count_text cases = codes "cases " ++ decimal cases ++ codes "\n"
