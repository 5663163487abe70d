-- What is tried of the lines of a file, in order.
use Rattle.std.specs.Prelude.{◌≡◌, ℕ, ◌+◌, true, List, [], ◌∷◌, IsUtf8, Some, None}
use Rattle.snb_schema.specs.declared.refusal.Counted.TheVariants.{Rows}
use Rattle.snb_schema.specs.declared.refusal.Refusal.{Refusal}
use Rattle.snb_schema.specs.declared.refusal.Refusal.TheVariants.{BadLine, NoHeader, NotUtf8, TooLarge, TooMany}
use Rattle.snb_schema.specs.Lines.{begins_with_mark, filled, lines}
use Rattle.snb_input_lines.specs.Counts.{IsFull}
use Rattle.snb_input_files.specs.Files.{FirstFault, IsBeyond}
use Rattle.snb_base.specs.FirstOf.{FirstOf}
use Rattle.snb_input_files.specs.Format.{Format}
use Rattle.snb_input_files.specs.Places.{FileSays, FilesSay, HasKnown, InputPlace, KnownAt, LinesSay, counted_rows, line_number}

-- the line or its line end holds a byte past the most that are read
abbrev pub IsTooLarge : InputPlace → List ℕ → Refusal → Type 0
IsTooLarge p line r = IsBeyond p.bytes p.size p.before line × (r ≡ TooLarge p.file)

-- the line begins with a byte order mark
abbrev pub IsMarked : InputPlace → List ℕ → Refusal → Type 0
IsMarked p line r = (begins_with_mark line ≡ true) × (r ≡ BadLine p.file (line_number p) 1)

-- the line isn't UTF-8
abbrev pub IsNoText : InputPlace → List ℕ → Refusal → Type 0
IsNoText p line r = ¬ IsUtf8 line × (r ≡ NotUtf8 p.file (line_number p))

-- the line should be the header, and has a bad column
abbrev pub HasBadHeader : {K T : Type 0} → Format K T → InputPlace → List ℕ → Refusal → Type 0
HasBadHeader g p line r =
    KnownAt g p None × (column : ℕ) × (g.language p.file).bad_header line column
    × (r ≡ BadLine p.file (line_number p) column)

-- the line is a data line, and has a bad column
abbrev pub HasBadColumn : {K T : Type 0} → Format K T → InputPlace → List ℕ → Refusal → Type 0
HasBadColumn {K} g p line r =
    (k : K) × KnownAt g p (Some k) × (column : ℕ) × (g.language p.file).bad_line k line column
    × (r ≡ BadLine p.file (line_number p) column)

-- the line is a data line too many
abbrev pub IsRowTooMany : {K T : Type 0} → Format K T → InputPlace → Refusal → Type 0
IsRowTooMany {K} g p r =
    (k : K) × KnownAt g p (Some k) × IsFull g.rules.limit (p.rows + counted_rows g p.file p.before)
    × (r ≡ TooMany Rows)

-- the line is a data line, and its item is refused by the file's own check, by what all lines
-- before it said
pub record FailsOwn {K T : Type 0} (g : Format K T) (p : InputPlace) (line : List ℕ) (r : Refusal)
    : Type 0 where
  pub done : List (List T)
  pub said : FilesSay g p.past done
  pub mine : List T
  pub known : K
  pub says : LinesSay g p.file p.before mine (Some known)
  pub item : T
  pub spells : (g.language p.file).spells known (line_number p) line item
  pub fails : g.rules.own p.file done mine item r

-- what is tried of the line at a place, in order; of a line without a byte only whether it is too
-- large
abbrev pub line_checks : {K T : Type 0} → Format K T → InputPlace → List ℕ
    → List {1} (Refusal → Type 0)
line_checks g p [] = IsTooLarge p [] ∷ []
line_checks g p (b ∷ bs) =
    IsTooLarge p (b ∷ bs)
    ∷ IsMarked p (b ∷ bs)
    ∷ IsNoText p (b ∷ bs)
    ∷ HasBadHeader g p (b ∷ bs)
    ∷ HasBadColumn g p (b ∷ bs)
    ∷ IsRowTooMany g p
    ∷ FailsOwn g p (b ∷ bs)
    ∷ []

-- the line after these of a file is refused so
abbrev pub LineFault : {K T : Type 0} → Format K T → InputPlace → List (List ℕ) → List ℕ → Refusal
    → Type 0
LineFault g p before line r = FirstOf (line_checks g (record p { before = before }) line) r

-- the first of a file's lines with which something is wrong is refused so
abbrev pub LinesRefuse : {K T : Type 0} → Format K T → InputPlace → List ℕ → Refusal → Type 0
LinesRefuse g p whole r = FirstFault (LineFault g p) (lines whole) r

-- a header is due in a file, and none of its lines has a byte
abbrev pub LacksHeader : {K T : Type 0} → Format K T → InputPlace → List ℕ → Refusal → Type 0
LacksHeader g p whole r =
    HasKnown (g.language p.file).begins (g.language p.file).heads (filled (lines whole)) None
    × (r ≡ NoHeader p.file)

-- what a file says isn't enough
abbrev pub IsBare : {K T : Type 0} → Format K T → InputPlace → List ℕ → Refusal → Type 0
IsBare {T = T} g p whole r =
    (items : List T) × FileSays g (record { file = p.file; bytes = whole }) items
    × (g.rules.bare p.file items ≡ Some r)

-- what is tried of a file of these bytes, in order, where the place is its begin
abbrev pub file_checks : {K T : Type 0} → Format K T → InputPlace → List ℕ
    → List {1} (Refusal → Type 0)
file_checks g p whole = LinesRefuse g p whole ∷ LacksHeader g p whole ∷ IsBare g p whole ∷ []
