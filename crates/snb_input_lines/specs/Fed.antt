-- A reader that was fed a text from the first byte of its file on.
use Rattle.std.specs.Prelude.{◌≡◌, ◌⊎◌, ℕ, false, List, length, Option, Some, None}
use Rattle.snb_schema.specs.declared.file.FileId.{FileId}
use Rattle.snb_schema.specs.declared.refusal.Refusal.{Refusal}
use Rattle.snb_schema.specs.Lines.{lines}
use Rattle.snb_input_lines.specs.Cut.{rest_of, whole_lines}
use Rattle.snb_input_lines.specs.Feeding.{Reader}
use Rattle.snb_input_lines.specs.Language.{Language}
use Rattle.snb_input_lines.specs.Reading.{EndsBad, Says, Stops}
use Rattle.snb_input_lines.specs.Sinks.{Refuses, Runs, Takes}

-- it has read the lines that are ended, none of which is refused, and the sink has their items
pub record Fed {G K S T : Type 0} (g : Language K T) (takes : Takes S T) (file : FileId)
    (grammar : G) (start : S) (text : List ℕ) (reader : Reader G K) (sink : S) : Type 0 where
  pub items : List T
  pub file_is : reader.file ≡ file
  pub grammar_is : reader.grammar ≡ grammar
  pub fed : reader.fed ≡ length text
  pub ended : reader.ended ≡ length (whole_lines text)
  pub begun : reader.begun ≡ rest_of text
  pub says : Says g g.begins 0 (whole_lines text) items reader.known
  pub runs : Runs takes file start items sink
  pub goes_on : reader.over ≡ false
  pub good : reader.fault ≡ None

-- the whole file is read: its lines say these items, which the sink has, and nothing is wrong with
-- its end
pub record IsRead {S K T : Type 0} (g : Language K T) (takes : Takes S T)
    (ends : S → FileId → Option Refusal) (file : FileId) (text : List ℕ) (old new : S)
    : Type 0 where
  pub items : List T
  pub known : K
  pub says : Says g g.begins 0 (lines text) items (Some known)
  pub runs : Runs takes file old items new
  pub fine : ends new file ≡ None

-- the first of its lines that is refused is refused so, after those that say these items; or its
-- end is
pub record IsRefused {S K T : Type 0} (g : Language K T) (takes : Takes S T) (refuses : Refuses S T)
    (same : S → S → Type 0) (ends : S → FileId → Option Refusal)
    (file : FileId) (text : List ℕ) (old new : S) (r : Refusal) : Type 0 where
  pub items : List T
  pub mid : S
  pub refused : Stops g takes refuses file g.begins 0 (lines text) old items mid r
      ⊎ EndsBad g takes ends file g.begins 0 (lines text) old items mid r
  pub left : same mid new
