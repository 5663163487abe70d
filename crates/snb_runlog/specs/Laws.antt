-- Laws of the log.
use Rattle.std.specs.Prelude.{◌≡◌, ◌⊎◌, ◌<◌, ◌^◌, ◌++◌, ℕ, List, All, Option, None, Some, codes}
use Rattle.snb_history.specs.declared.logged.Header.{Header}
use Rattle.snb_history.specs.declared.logged.Logged.{Logged}
use Rattle.snb_history.specs.RunTexts.{header_line, log_text, logged_line, text_of_log}
use Rattle.snb_schema.specs.Lines.{HasNoEnd, fields, lines}
use Rattle.snb_input_lines.specs.Language.{IsText}
use Rattle.snb_input_lines.specs.Laws.{IsExact}
use Rattle.snb_input_lines.specs.Reading.{Says}
use Rattle.snb_runlog.specs.Columns.{CanBeHeader, CanBeLogged, header_numbers, event_kind_of, letter_of, log_name, numbers_of}
use Rattle.snb_runlog.specs.Lines.{IsEvent, IsHeader, IsLogged, IsNoEvent, IsNoHeader, log_language}
use Rattle.snb_runlog.specs.Writing.{cells_text}

-- the numbers are below 2 ^ 64, as all are that a run writes
abbrev pub AreWritten : List ℕ → Type 0
AreWritten ns = All (λ n. n < 2 ^ 64) ns

-- what a log tells is of such numbers
abbrev pub IsWritten : Logged → Type 0
IsWritten logged = AreWritten (numbers_of logged)

-- logs of the last version that are the same text are of the same number of workers and of
-- operations, and of the same history and counts
abbrev pub LogIsOfOneHistory : Type 0
LogIsOfOneHistory =
    (w v m n : ℕ) (g h : List Logged) → All IsWritten g → All IsWritten h → w < 2 ^ 32 → v < 2 ^ 32
    → m < 2 ^ 32 → n < 2 ^ 32 →
    log_text w m g ≡ log_text v n h → (w ≡ v) × (m ≡ n) × (g ≡ h)

-- and logs of any versions that are the same text have the same header, and tell the same
abbrev pub TextIsOfOneLog : Type 0
TextIsOfOneLog =
    (a b : Header) (g h : List Logged) → AreWritten (header_numbers a)
    → AreWritten (header_numbers b) → All IsWritten g → All IsWritten h →
    text_of_log a g ≡ text_of_log b h → (a ≡ b) × (g ≡ h)

-- the fields of a line spell one thing at most
abbrev pub OneEvent : Type 0
OneEvent =
    (version : ℕ) (fs : List (List ℕ)) (d e : Logged) → IsEvent version fs d → IsEvent version fs e
    → d ≡ e

-- and are one header at most
abbrev pub OneHeader : Type 0
OneHeader = (fs : List (List ℕ)) (a b : Header) → IsHeader fs a → IsHeader fs b → a ≡ b

-- fields spell an event or have a bad column, not both, and have one bad column at most
pub record EventOrColumn (version : ℕ) (fs : List (List ℕ)) : Type 0 where
  pub some : ((logged : Logged) × IsEvent version fs logged)
      ⊎ ((column : ℕ) × IsNoEvent version fs column)
  pub right : (logged : Logged) (column : ℕ) → IsEvent version fs logged
      → ¬ IsNoEvent version fs column
  pub one : (a b : ℕ) → IsNoEvent version fs a → IsNoEvent version fs b → a ≡ b

-- fields are a header or have a bad column, not both, and have one bad column at most
pub record HeaderOrColumn (fs : List (List ℕ)) : Type 0 where
  pub some : ((head : Header) × IsHeader fs head) ⊎ ((column : ℕ) × IsNoHeader fs column)
  pub right : (head : Header) (column : ℕ) → IsHeader fs head → ¬ IsNoHeader fs column
  pub one : (a b : ℕ) → IsNoHeader fs a → IsNoHeader fs b → a ≡ b

-- the line of what a log tells, without its end
abbrev pub line_of : Logged → List ℕ
line_of logged = letter_of (event_kind_of logged.event) ++ cells_text (numbers_of logged)

-- the line that is written is one line, and tells that and nothing else
pub record IsOwnLine (version : ℕ) (logged : Logged) : Type 0 where
  pub written : logged_line logged ≡ line_of logged ++ codes "\n"
  pub text : IsText (line_of logged)
  pub one_line : HasNoEnd (line_of logged)
  pub again : IsLogged version (line_of logged) logged
  pub no_other : (d : Logged) → IsLogged version (line_of logged) d → d ≡ logged

-- what a log of some version can tell has a line of its own
abbrev pub OwnLine : Type 0
OwnLine = (version : ℕ) (logged : Logged) → CanBeLogged version logged → IsOwnLine version logged

-- the line of a header without its end
abbrev pub header_text : Header → List ℕ
header_text head = log_name ++ cells_text (header_numbers head)

-- the header's line is one line, and says that header and nothing else
pub record IsOwnHeader (head : Header) : Type 0 where
  pub written : header_line head ≡ header_text head ++ codes "\n"
  pub text : IsText (header_text head)
  pub one_line : HasNoEnd (header_text head)
  pub again : IsHeader (fields (header_text head)) head
  pub no_other : (other : Header) → IsHeader (fields (header_text head)) other → other ≡ head

-- each header that a log can have has a line of its own
abbrev pub OwnHeader : Type 0
OwnHeader = (head : Header) → CanBeHeader head → IsOwnHeader head

-- a line of a log says one thing at most, or has a bad column
abbrev pub LogIsExact : Type 0
LogIsExact = IsExact log_language

-- a text says this header, and tells this
abbrev pub IsLog : List ℕ → Header → List Logged → Type 0
IsLog text head logged = Says log_language None 0 (lines text) logged (Some head)

-- the lines of the log that is written say its header and what it tells, and nothing else
pub record ReadsBack (head : Header) (logged : List Logged) : Type 0 where
  pub says : IsLog (text_of_log head logged) head logged
  pub no_other : (items : List Logged) (new : Option Header)
      → Says log_language None 0 (lines (text_of_log head logged)) items new
      → (items ≡ logged) × (new ≡ Some head)

-- what is written is read as it was, in either version
abbrev pub LogReadsBack : Type 0
LogReadsBack =
    (head : Header) (logged : List Logged) → CanBeHeader head
    → All (CanBeLogged head.version) logged → ReadsBack head logged
