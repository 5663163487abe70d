-- The files of a stage of an input in the order in which they are looked for, and what is wrong
-- with the first of them that isn't right.
use Rattle.std.specs.Prelude.{◌≡◌, ℕ, zero, suc, ◌+◌, Bool, true, false, List, [], ◌∷◌, ◌++◌, length, Option, Some, None, IfSome}
use Rattle.snb_base.specs.Shelf.{Files}
use Rattle.snb_schema.specs.declared.file.FileId.{FileId}
use Rattle.snb_schema.specs.declared.refusal.Counted.{Counted}
use Rattle.snb_schema.specs.declared.refusal.Refusal.{Refusal}
use Rattle.snb_schema.specs.declared.refusal.Refusal.TheVariants.{Absent, TooMany}
use Rattle.snb_schema.specs.Lines.{lines}
use Rattle.snb_input_files.specs.declared.series.Series.{Series}
use Rattle.snb_input_files.specs.Files.{held_in}
use Rattle.snb_input_files.specs.Format.{Format}
use Rattle.snb_input_files.specs.Places.{ReadFile, opening, counted_rows}
use Rattle.snb_input_files.specs.PlaceChecks.{file_checks}

-- the bytes of each file of a folder, where it is held
abbrev pub Held : Type 0
Held = FileId → Option (List ℕ)

-- these are the files that the folder holds, where the shelf tells what it holds
abbrev pub IsHeldTold : Option Files → List ℕ → Held → Type 0
IsHeldTold contents folder held =
    IfSome contents (λ files. (file : FileId) → held file ≡ held_in folder files file)

-- whether a file that is looked for must be there, may be there, or is one too many where it is
-- there
pub data Role : Type 0 where
  Needed : Role
  Further : Role
  Beyond : (what : Counted) → Role

-- a look for a file: which one, in which role, and its bytes where it is held
pub record Look : Type 0 where
  pub file : FileId
  pub role : Role
  pub held : Option (List ℕ)

-- what was read before: how many bytes and data lines, and which files of the stage
pub record Before : Type 0 where
  pub bytes : ℕ
  pub rows : ℕ
  pub past : List ReadFile

-- what is tried of a file in a role, which is held or not
abbrev pub look_checks : {K T : Type 0} → Format K T → Before → FileId → Role → Option (List ℕ)
    → List {1} (Refusal → Type 0)
look_checks g at file Needed None = (λ r. r ≡ Absent file) ∷ []
look_checks g at file Needed (Some b) = file_checks g (opening file at.bytes at.rows at.past b) b
look_checks g at file Further None = []
look_checks g at file Further (Some b) = file_checks g (opening file at.bytes at.rows at.past b) b
look_checks g at file (Beyond what) None = []
look_checks g at file (Beyond what) (Some b) = (λ r. r ≡ TooMany what) ∷ []

-- what was read after a file of these bytes
abbrev pub with_file : {K T : Type 0} → Format K T → Before → FileId → List ℕ → Before
with_file g at file b = record {
  bytes = at.bytes + length b;
  rows = at.rows + counted_rows g file (lines b);
  past = at.past ++ record { file = file; bytes = b } ∷ [];
}

-- what was read after a look: a file that isn't held isn't read, nor is one too many
abbrev pub after_look : {K T : Type 0} → Format K T → Before → FileId → Role → Option (List ℕ)
    → Before
after_look g at file Needed None = at
after_look g at file Needed (Some b) = with_file g at file b
after_look g at file Further None = at
after_look g at file Further (Some b) = with_file g at file b
after_look g at file (Beyond what) held = at

-- what is tried of files that are looked for one after the other
abbrev pub walk_checks : {K T : Type 0} → Format K T → Before → List Look
    → List {1} (Refusal → Type 0)
walk_checks g at [] = []
walk_checks g at (l ∷ ls) =
    look_checks g at l.file l.role l.held ++ walk_checks g (after_look g at l.file l.role l.held) ls

-- what was read after them
abbrev pub after_walk : {K T : Type 0} → Format K T → Before → List Look → Before
after_walk g at [] = at
after_walk g at (l ∷ ls) = after_walk g (after_look g at l.file l.role l.held) ls

-- the file of a series that has this number
abbrev pub file_at : Series → ℕ → FileId
file_at s i = record { kind = s.kind; part = i }

-- the role of the first file of a series, by whether it is needed
abbrev pub first_role : Bool → Role
first_role true = Needed
first_role false = Further

-- the look for the file of this number that would be one too many, where there may be too many of
-- something
abbrev pub look_beyond : Held → Series → ℕ → Option Counted → List Look
look_beyond held s i None = []
look_beyond held s i (Some what) =
    record { file = file_at s i; role = Beyond what; held = held (file_at s i) } ∷ []

-- the looks for the files of a series from this number on, of which so many may be there: up to the
-- first that isn't held, or one too many
unfoldable pub looks_from : Held → Series → ℕ → ℕ → Role → List Look
looks_from held s zero i role = look_beyond held s i s.what
looks_from held s (suc n) i role =
    record { file = file_at s i; role = role; held = held (file_at s i) }
    ∷ (elim (held (file_at s i)) [ None ↦ [] | Some b ↦ looks_from held s n (i + 1) Further ])

-- the looks for all files of a series
unfoldable pub series_looks : Held → Series → List Look
series_looks held s = looks_from held s s.most 0 (first_role s.needed)

-- the looks for the files of a stage, series after series
abbrev pub stage_looks : Held → List Series → List Look
stage_looks held [] = []
stage_looks held (s ∷ ss) = series_looks held s ++ stage_looks held ss

-- what is tried of a stage of an input, in order: the stage is refused by the first of these that
-- refuses
abbrev pub stage_checks : {K T : Type 0} → Format K T → Before → Held → List Series
    → List {1} (Refusal → Type 0)
stage_checks g at held ss = walk_checks g at (stage_looks held ss)
