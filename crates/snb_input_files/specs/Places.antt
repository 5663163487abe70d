-- A place in an input, and what is wrong there: one order of checks for the lines of every file.
use Rattle.std.specs.Prelude.{◌≡◌, ℕ, ◌+◌, List, [], ◌∷◌, length, Option, Some, None}
use Rattle.snb_schema.specs.declared.file.FileId.{FileId}
use Rattle.snb_schema.specs.Lines.{data_lines, filled, lines}
use Rattle.snb_input_lines.specs.Counts.{counted}
use Rattle.snb_input_lines.specs.Reading.{Says}
use Rattle.snb_input_files.specs.Format.{Format}

-- a file that was read, and its bytes
pub record ReadFile : Type 0 where
  pub file : FileId
  pub bytes : List ℕ

-- a place in an input
pub record InputPlace : Type 0 where
  -- the file, and how many bytes it has
  pub file : FileId
  pub size : ℕ
  -- how many bytes and data lines were read before the file
  pub bytes : ℕ
  pub rows : ℕ
  -- the files that were read before it in the same stage
  pub past : List ReadFile
  -- the lines of the file before the place
  pub before : List (List ℕ)

-- the begin of a file of these bytes, after so many bytes and data lines and these files of the
-- stage
abbrev pub opening : FileId → ℕ → ℕ → List ReadFile → List ℕ → InputPlace
opening file bytes rows past whole =
    record {
      file = file;
      size = length whole;
      bytes = bytes;
      rows = rows;
      past = past;
      before = [];
    }

-- the number of the line at a place
abbrev pub line_number : InputPlace → ℕ
line_number p = length p.before + 1

-- what is known after these lines that have a byte: what the header said, which is the first of
-- them where one is due
abbrev pub HasKnown : {K : Type 0} → Option K → (List ℕ → K → Type 0) → List (List ℕ) → Option K
    → Type 0
HasKnown (Some k) heads ls known = known ≡ Some k
HasKnown None heads [] known = known ≡ None
HasKnown {K} None heads (l ∷ ls) known = (k : K) × heads l k × (known ≡ Some k)

-- the data lines of a file, where a header is due or not
abbrev pub data_of : {K : Type 0} → Option K → List (List ℕ) → List (List ℕ)
data_of None ls = data_lines ls
data_of (Some k) ls = filled ls

-- how many data lines are counted of these lines of a file
abbrev pub counted_rows : {K T : Type 0} → Format K T → FileId → List (List ℕ) → ℕ
counted_rows g file ls = counted g.rules.limit (length (data_of (g.language file).begins ls))

-- the lines of a file say these items, and this is known after them
abbrev pub LinesSay : {K T : Type 0} → Format K T → FileId → List (List ℕ) → List T → Option K
    → Type 0
LinesSay g file ls items known = Says (g.language file) (g.language file).begins 0 ls items known

-- the data lines of a file, whose header is passed where one is due, say these items
abbrev pub FileSays : {K T : Type 0} → Format K T → ReadFile → List T → Type 0
FileSays {K} g source items = (k : K) × LinesSay g source.file (lines source.bytes) items (Some k)

-- each of the files says its own of these lists of items
abbrev pub FilesSay : {K T : Type 0} → Format K T → List ReadFile → List (List T) → Type 0
FilesSay g [] [] = Unit {0}
FilesSay g [] (xs ∷ xss) = ⊥
FilesSay g (s ∷ ss) [] = ⊥
FilesSay g (s ∷ ss) (xs ∷ xss) = FileSays g s xs × FilesSay g ss xss

-- what is known at a place
abbrev pub KnownAt : {K T : Type 0} → Format K T → InputPlace → Option K → Type 0
KnownAt g p known =
    HasKnown (g.language p.file).begins (g.language p.file).heads (filled p.before) known
