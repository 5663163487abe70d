-- The bytes of files, and what is wrong with the first of their lines that isn't right.
use Rattle.std.specs.Prelude.{◌≡◌, ℕ, ◌+◌, ◌<◌, min, List, ◌∷◌, ◌++◌, length, Option, sum_by}
use Rattle.snb_base.specs.Shelf.{Files}
use Rattle.snb_schema.specs.declared.file.FileId.{FileId}
use Rattle.snb_schema.specs.declared.limits.TheConstants.{MAX_BYTES}
use Rattle.snb_schema.specs.declared.refusal.Refusal.{Refusal}
use Rattle.snb_schema.specs.FileNames.{name_of}

-- the bytes of a file of the folder, where it is held
abbrev pub held_in : List ℕ → Files → FileId → Option (List ℕ)
held_in folder files file = files (folder ++ 47 ∷ name_of file)

-- no line has a fault
pub record NoFault (F : List (List ℕ) → List ℕ → Refusal → Type 0) (ls : List (List ℕ))
    : Type 0 where
  pub none : (before : List (List ℕ)) (line : List ℕ) (after : List (List ℕ)) (r : Refusal)
      → before ++ line ∷ after ≡ ls → ¬ F before line r

-- the first line that has a fault has this one
pub record FirstFault (F : List (List ℕ) → List ℕ → Refusal → Type 0) (ls : List (List ℕ))
    (r : Refusal) : Type 0 where
  pub before : List (List ℕ)
  pub line : List ℕ
  pub after : List (List ℕ)
  pub splits : before ++ line ∷ after ≡ ls
  pub fault : F before line r
  pub none_before : NoFault F before

-- how far into a file of `size` bytes a line reaches, with its line end where it has one
abbrev pub reach : ℕ → List (List ℕ) → List ℕ → ℕ
reach size before line = min size (sum_by (λ l. length l + 1) before + (length line + 1))

-- the line or its line end holds a byte past the most that are read, where `used` were read before
-- the file
abbrev pub IsBeyond : ℕ → ℕ → List (List ℕ) → List ℕ → Type 0
IsBeyond used size before line = MAX_BYTES < used + reach size before line
