-- The cases of a file by which the answers of a graph are checked, each a line of JSON.
use Rattle.std.specs.Prelude.{◌≡◌, ℕ, List, Some, Result, Ok, Err, IsUtf8, codes}
use Rattle.serde_json.specs.Data.{Data, member, no_members}
use Rattle.serde_json.specs.Find.{as_object}
use Rattle.serde_json.specs.Read.{read}
use Rattle.snb_schema.specs.declared.op.Line.{Line}
use Rattle.snb_schema.specs.declared.query.Query.{Query}
use Rattle.snb_schema.specs.ReadKinds.{read_kind_of, read_word}
use Rattle.snb_schema.specs.UpdateLines.{IsLine}
use Rattle.snb_read_model.specs.Cells.{ByteCell}
use Rattle.snb_validation_cases.specs.declared.case.Case.{Case}
use Rattle.snb_validation_cases.specs.declared.case.Case.TheVariants.{Insert, Ask}
use Rattle.snb_validation_cases.specs.declared.case.CaseFault.{CaseFault}
use Rattle.snb_validation_cases.specs.declared.case.CaseFault.TheVariants.{Bad, Memory}
use Rattle.snb_validation_cases.specs.Parameters.{AreParameters}
use Rattle.snb_validation_cases.specs.Replies.{IsReplyData}
use Rattle.snb_validation_cases.specs.Values.{IsArray, IsString}

-- the value is a text that is an insert's line; that is line 1 of its text
abbrev pub IsInsertLine : Data → Line → Type 0
IsInsertLine d line =
    (text : List ℕ) × IsString d text × IsLine text line.t line.t_d line.op × (line.number ≡ 1)

-- an object with the key `insert` alone, which holds an insert's line
pub record IsInsert (d : Data) (line : Line) : Type 0 where
  pub held : Data
  pub keys : as_object d ≡ Some (member (codes "insert") held no_members)
  pub is_line : IsInsertLine held line

-- these three are the parameters of the query, the word of its kind, and a reply to it
abbrev pub IsAskOf : Data → Data → Data → Query → List (List (List ByteCell)) → Type 0
IsAskOf params word held query reply =
    IsString word (read_word (read_kind_of query)) × IsArray AreParameters params query
    × IsReplyData query held reply

-- an object with the keys `params`, `read` and `reply` alone, which hold these three
pub record IsAsk (d : Data) (query : Query) (reply : List (List (List ByteCell))) : Type 0 where
  pub params : Data
  pub word : Data
  pub held : Data
  pub keys : as_object d
      ≡ Some (member (codes "params") params
      (member (codes "read") word (member (codes "reply") held no_members)))
  pub asks : IsAskOf params word held query reply

-- a value is this case
abbrev pub IsCase : Data → Case → Type 0
IsCase d (Insert line) = IsInsert d line
IsCase d (Ask query reply) = IsAsk d query reply

-- a text spells this case: it is UTF-8, and `serde_json` reads from it a value that is the case
abbrev pub SpellsCase : List ℕ → Case → Type 0
SpellsCase text case = IsUtf8 text × (d : Data) × (read text ≡ Some d) × IsCase d case

-- a text spells no case
abbrev pub SpellsNone : List ℕ → Type 0
SpellsNone text = (one : Case) → ¬ SpellsCase text one

-- a fact where a text was refused
abbrev pub OnBadCase : {A : Type 0} → Result A CaseFault → Type 0 → Type 0
OnBadCase (Ok a) P = Unit {0}
OnBadCase (Err Bad) P = P
OnBadCase (Err Memory) P = Unit {0}
