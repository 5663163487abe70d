-- What the lines of a log say.
use Rattle.std.specs.Prelude.{◌≡◌, ◌≢◌, ◌+◌, ◌≤◌, ℕ, zero, suc, true, List, [], ◌∷◌, length, drop, None}
use Rattle.snb_base.specs.FirstOf.{FirstOf}
use Rattle.snb_base.specs.Spellings.{Num}
use Rattle.snb_history.specs.declared.logged.Header.{Header}
use Rattle.snb_history.specs.declared.logged.Logged.{Logged}
use Rattle.snb_schema.specs.declared.file.FileId.{FileId}
use Rattle.snb_schema.specs.declared.file.FileKind.TheVariants.{Log}
use Rattle.snb_schema.specs.Lines.{fields}
use Rattle.snb_schema.specs.UpdateLines.{field}
use Rattle.snb_input_lines.specs.Language.{Language}
use Rattle.snb_runlog.specs.declared.columns.EventKind.{EventKind}
use Rattle.snb_runlog.specs.Columns.{event_columns, header_columns, header_numbers, event_kind_of, letter_of, log_name, numbers_of, version_column}

-- the field spells this number of a column, which is from the least to the greatest
abbrev pub IsNumber : ℕ × ℕ → List ℕ → ℕ → Type 0
IsNumber column x n = Num x n column.1 × (column.0 ≤ n)

-- there is a field for each column, and it spells the number beside it
abbrev pub AreNumbers : List (ℕ × ℕ) → List (List ℕ) → List ℕ → Type 0
AreNumbers [] [] [] = Unit {0}
AreNumbers (c ∷ cs) (x ∷ xs) (n ∷ ns) = IsNumber c x n × AreNumbers cs xs ns
AreNumbers _ _ _ = ⊥

-- after so many fields that spell numbers of their columns comes one that spells none
abbrev pub NumbersStopAfter : List (ℕ × ℕ) → List (List ℕ) → ℕ → Type 0
NumbersStopAfter (c ∷ cs) (x ∷ xs) zero = (n : ℕ) → ¬ IsNumber c x n
NumbersStopAfter (c ∷ cs) (x ∷ xs) (suc k) = ((n : ℕ) × IsNumber c x n) × NumbersStopAfter cs xs k
NumbersStopAfter _ _ _ = ⊥

-- there is a first field, and one for each column
abbrev pub HasAllColumns : List (ℕ × ℕ) → List (List ℕ) → Type 0
HasAllColumns cs fs = length fs ≡ length cs + 1

-- the fields are as many as the headers of some version have
abbrev pub MayHead : List (List ℕ) → Type 0
MayHead fs = (3 ≤ length fs) × (length fs ≤ 4)

-- the fields are the header of a log: its name, its version, and a number in each column of that
-- version
pub record IsHeader (fs : List (List ℕ)) (head : Header) : Type 0 where
  pub name : field 0 fs ≡ log_name
  pub numbers : AreNumbers (version_column ∷ header_columns head.version) (drop 1 fs)
      (header_numbers head)

-- what is tried of the fields of a header, in order, with the column that it gives: whether they
-- are fewer or more than any version has; the name; the version; whether they are as many as that
-- version has; and each of its columns
abbrev pub header_checks : List (List ℕ) → List {1} (ℕ → Type 0)
header_checks fs =
    (λ c. ¬ MayHead fs × (c ≡ 0))
    ∷ (λ c. (field 0 fs ≢ log_name) × (c ≡ 1))
    ∷ (λ c. ((v : ℕ) → ¬ IsNumber version_column (field 1 fs) v) × (c ≡ 2))
    ∷ (λ c. (v : ℕ) × IsNumber version_column (field 1 fs) v
    × ¬ HasAllColumns (version_column ∷ header_columns v) fs × (c ≡ 0))
    ∷ (λ c. (v : ℕ) × IsNumber version_column (field 1 fs) v × (n : ℕ)
    × NumbersStopAfter (header_columns v) (drop 2 fs) n × (c ≡ n + 3))
    ∷ []

-- the fields are no header, in this column
abbrev pub IsNoHeader : List (List ℕ) → ℕ → Type 0
IsNoHeader fs column = FirstOf (header_checks fs) column

-- the fields spell this in a log of this version: the letter of the event, and a number in each of
-- its columns
pub record IsEvent (version : ℕ) (fs : List (List ℕ)) (logged : Logged) : Type 0 where
  pub letter : field 0 fs ≡ letter_of (event_kind_of logged.event)
  pub numbers : AreNumbers (event_columns version (event_kind_of logged.event)) (drop 1 fs)
      (numbers_of logged)

-- the first field is the letter of a kind
abbrev pub HasLetter : List (List ℕ) → EventKind → Type 0
HasLetter fs kind = field 0 fs ≡ letter_of kind

-- what is tried of the fields of a later line, in order, with the column that it gives: the letter;
-- whether they are as many as the letter has in this version; and each of its columns
abbrev pub event_checks : ℕ → List (List ℕ) → List {1} (ℕ → Type 0)
event_checks version fs =
    (λ c. ((kind : EventKind) → ¬ HasLetter fs kind) × (c ≡ 1))
    ∷ (λ c. (kind : EventKind) × HasLetter fs kind × ¬ HasAllColumns (event_columns version kind) fs
    × (c ≡ 0))
    ∷ (λ c. (kind : EventKind) × HasLetter fs kind × (n : ℕ)
    × NumbersStopAfter (event_columns version kind) (drop 1 fs) n × (c ≡ n + 2))
    ∷ []

-- the fields spell no event, in this column
abbrev pub IsNoEvent : ℕ → List (List ℕ) → ℕ → Type 0
IsNoEvent version fs column = FirstOf (event_checks version fs) column

-- this is what a line tells in a log of this version: its fields spell it
abbrev pub IsLogged : ℕ → List ℕ → Logged → Type 0
IsLogged version line logged = IsEvent version (fields line) logged

-- the first line with a byte is a header, and each later one tells what it says in the header's
-- version
abbrev pub log_language : Language Header Logged
log_language = record {
  begins = None;
  splits = true;
  heads = λ line head. IsHeader (fields line) head;
  bad_header = λ line column. IsNoHeader (fields line) column;
  spells = λ head number line logged. IsLogged head.version line logged;
  bad_line = λ head line column. IsNoEvent head.version (fields line) column;
}

-- the file of a log
abbrev pub log_file : FileId
log_file = record { kind = Log; part = 0 }
