-- Laws of the definitions.
use Rattle.std.specs.Prelude.{◌≡◌, ◌+◌, ℕ, List, ◌++◌, length, All, Option}
use Rattle.snb_schema.specs.Lines.{HasNoEnd, lines}
use Rattle.snb_schema.specs.declared.file.FileId.{FileId}
use Rattle.snb_schema.specs.declared.refusal.Refusal.{Refusal}
use Rattle.snb_input_lines.specs.Cut.{last_lines, rest_of, whole_lines}
use Rattle.snb_input_lines.specs.Language.{Language}
use Rattle.snb_input_lines.specs.Lists.{Stops}
use Rattle.snb_input_lines.specs.Reading.{Says}
use Rattle.snb_input_lines.specs.Reading as run
use Rattle.snb_input_lines.specs.Sinks.{Refuses, Runs, Takes}

-- the lines of a file are those that are ended, and what follows the last end where it has a byte
abbrev pub LinesAreWhole : Type 0
LinesAreWhole = (text : List ℕ) → lines text ≡ whole_lines text ++ last_lines (rest_of text)

-- a text may be cut anywhere: what follows the last end of the front is joined to the back
abbrev pub CutAnywhere : Type 0
CutAnywhere = (a b : List ℕ)
    → (whole_lines (a ++ b) ≡ whole_lines a ++ whole_lines (rest_of a ++ b))
    × (rest_of (a ++ b) ≡ rest_of (rest_of a ++ b))

-- no line of a file has a line end
abbrev pub LinesHaveNoEnd : Type 0
LinesHaveNoEnd = (text : List ℕ) → All HasNoEnd (lines text)

-- lines, and then more lines, say what both together say; and where one of the later lines is
-- refused, it is refused among all of them
pub record Joins {K T : Type 0} (g : Language K T) (before after all : List (List ℕ)) : Type 0 where
  pub says :
      (known mid new : Option K) (ended : ℕ) (items more : List T)
      → Says g known ended before items mid
      → Says g mid (ended + length before) after more new
      → Says g known ended all (items ++ more) new
  pub stops :
      (file : FileId) (known mid : Option K) (ended : ℕ) (items more : List T) (r : Refusal)
      → Says g known ended before items mid
      → Stops g file mid (ended + length before) after more r
      → Stops g file known ended all (items ++ more) r
  pub stands :
      (file : FileId) (known : Option K) (ended : ℕ) (items : List T) (r : Refusal)
      → Stops g file known ended before items r
      → Stops g file known ended all items r

-- a text and then a piece say what both say together
abbrev pub PiecesJoin : {K T : Type 0} → Language K T → Type 0
PiecesJoin g =
    (text piece : List ℕ) → Joins g (whole_lines text) (whole_lines (rest_of text ++ piece))
    (whole_lines (text ++ piece))

-- the lines that are ended and then the last line say what the file says
abbrev pub EndJoins : {K T : Type 0} → Language K T → Type 0
EndJoins g = (text : List ℕ) → Joins g (whole_lines text) (last_lines (rest_of text)) (lines text)

-- a line says one thing at most, or has a bad column
pub record IsExact {K T : Type 0} (g : Language K T) : Type 0 where
  pub one_header : (line : List ℕ) (k j : K) → g.heads line k → g.heads line j → k ≡ j
  pub good_header : (line : List ℕ) (k : K) (column : ℕ) → g.heads line k
      → ¬ g.bad_header line column
  pub one_item : (k : K) (number : ℕ) (line : List ℕ) (x y : T) → g.spells k number line x
      → g.spells k number line y → x ≡ y
  pub good_item : (k : K) (number : ℕ) (line : List ℕ) (x : T) (column : ℕ)
      → g.spells k number line x → ¬ g.bad_line k line column

-- lines say one list of items at most, and where they say one none of them is refused
pub record ReadsOnce {K T : Type 0} (g : Language K T) : Type 0 where
  pub one :
      (known new other : Option K) (ended : ℕ) (lines : List (List ℕ)) (items more : List T)
      → Says g known ended lines items new
      → Says g known ended lines more other
      → (items ≡ more) × (new ≡ other)
  pub apart :
      (file : FileId) (known new : Option K) (ended : ℕ) (lines : List (List ℕ))
      (items more : List T) (r : Refusal)
      → Says g known ended lines items new
      → ¬ Stops g file known ended lines more r

-- a sink takes an item in one way at most, and refuses none that it takes
pub record TakesOnce {S T : Type 0} (takes : Takes S T) (refuses : Refuses S T) : Type 0 where
  pub one : (old new other : S) (file : FileId) (x : T) → takes old file x new
      → takes old file x other → new ≡ other
  pub apart : (old new : S) (file : FileId) (x : T) (r : Refusal) → takes old file x new
      → ¬ refuses old file x r

-- where lines say items that a sink takes one after the other, none of the lines is refused
abbrev pub ReadsOn : {S K T : Type 0} → Language K T → Takes S T → Refuses S T → Type 0
ReadsOn {S} {K} {T} g takes refuses =
    (file : FileId) (known new : Option K) (ended : ℕ) (lines : List (List ℕ)) (items more : List T)
    (start has mid : S) (r : Refusal)
    → Says g known ended lines items new
    → Runs takes file start items has
    → ¬ run.Stops g takes refuses file known ended lines start more mid r
