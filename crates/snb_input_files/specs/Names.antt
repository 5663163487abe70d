-- The names that a shelf may be asked for, and those of the files of a stage.
use Rattle.std.specs.Prelude.{◌≡◌, ℕ, ◌≤◌, true, List, ◌∷◌, ◌++◌, Contains}
use Rattle.snb_base.specs.Shelf.{Names}
use Rattle.snb_schema.specs.FileNames.{name_of}
use Rattle.snb_input_files.specs.declared.series.Series.{Series}
use Rattle.snb_input_files.specs.Walk.{file_at}

-- each name of these may be asked for
abbrev pub Allows : Names → (List ℕ → Type 0) → Type 0
Allows names named = (name : List ℕ) → named name → names name ≡ true

-- a file of the stage has this name in the folder: one of a series by its part, or the one too
-- many, which is only looked for
pub record IsNameIn (stage : List Series) (folder name : List ℕ) : Type 0 where
  pub series : Series
  pub among : Contains stage series
  pub part : ℕ
  pub within : part ≤ series.most
  pub here : name ≡ folder ++ 47 ∷ name_of (file_at series part)
