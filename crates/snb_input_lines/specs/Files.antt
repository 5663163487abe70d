-- What the items of a whole file are.
use Rattle.std.specs.Prelude.{◌≡◌, ◌≢◌, ◌+◌, ℕ, List, [], ◌∷◌, ◌++◌, length}
use Rattle.snb_schema.specs.Lines.{data_lines, filled}

-- the items are those of the lines, after so many lines before them: one for each line that has a
-- byte, by its number
abbrev pub AreEach : {T : Type 0} → (ℕ → List ℕ → T → Type 0) → ℕ → List (List ℕ) → List T → Type 0
AreEach IsItem ended [] [] = Unit {0}
AreEach IsItem ended [] (x ∷ xs) = ⊥
AreEach IsItem ended ([] ∷ lines) xs = AreEach IsItem (ended + 1) lines xs
AreEach IsItem ended ((b ∷ bs) ∷ lines) [] = ⊥
AreEach IsItem ended ((b ∷ bs) ∷ lines) (x ∷ xs) =
    IsItem (ended + 1) (b ∷ bs) x × AreEach IsItem (ended + 1) lines xs

-- the first of the lines with a byte is a header, and the items are those of the data lines, which
-- follow it
pub record AreUnder {T : Type 0} (IsHeader : List ℕ → Type 0) (IsItem : ℕ → List ℕ → T → Type 0)
    (lines : List (List ℕ)) (items : List T) : Type 0 where
  pub before : List (List ℕ)
  pub header : List ℕ
  pub after : List (List ℕ)
  pub split : lines ≡ before ++ header ∷ after
  pub none_before : filled before ≡ []
  pub some : header ≢ []
  pub is_header : IsHeader header
  pub follows : data_lines lines ≡ filled after
  pub each : AreEach IsItem (length before + 1) after items
