-- A text cut at its line ends: the lines that are ended, and what follows the last end.
use Rattle.std.specs.Prelude.{◌≡◌, ◌++◌, ◌==◌, ℕ, List, [], ◌∷◌}
use Rattle.std.specs.List.{slice_split}
use Rattle.snb_schema.specs.Lines.{HasNoEnd}

-- a text is a front without a line end and a back that begins with one
pub record IsCutAtEnd (text front back : List ℕ) : Type 0 where
  pub rest : List ℕ
  pub one_line : HasNoEnd front
  pub ends : back ≡ 10 ∷ rest
  pub joined : text ≡ front ++ 10 ∷ rest

-- all parts but the last
abbrev pub all_but_last : List (List ℕ) → List (List ℕ)
all_but_last [] = []
all_but_last (part ∷ []) = []
all_but_last (part ∷ next ∷ parts) = part ∷ all_but_last (next ∷ parts)

-- the last part
abbrev pub last_part : List (List ℕ) → List ℕ
last_part [] = []
last_part (part ∷ []) = part
last_part (part ∷ next ∷ parts) = last_part (next ∷ parts)

-- the lines of a text that are ended, without their ends
abbrev pub whole_lines : List ℕ → List (List ℕ)
whole_lines text = all_but_last (slice_split (λ b. b == 10) text)

-- what follows the last line end of a text
abbrev pub rest_of : List ℕ → List ℕ
rest_of text = last_part (slice_split (λ b. b == 10) text)

-- the last line of a file, which has no end: it is a line where it has a byte
abbrev pub last_lines : List ℕ → List (List ℕ)
last_lines [] = []
last_lines (b ∷ bs) = (b ∷ bs) ∷ []
