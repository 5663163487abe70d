-- Files cut into lines, and lines cut into fields, each a function of the whole list of bytes.
use Rattle.std.specs.Prelude.{ℕ, ◌==◌, ◌≢◌, ◌&&◌, All, Bool, true, false, List, [], ◌∷◌, if◌then◌else◌, drop}
use Rattle.std.specs.List.{slice_split, onto_first, filter}

-- the lines of a file: it is cut at each `\n`, and the last piece is a line where it has a byte
abbrev pub lines : List ℕ → List (List ℕ)
lines [] = []
lines (b ∷ rest) = if b == 10 then [] ∷ lines rest else onto_first b (lines rest)

-- the fields of a line: n bars give n + 1 fields, and there is no quoting
abbrev pub fields : List ℕ → List (List ℕ)
fields line = slice_split (λ b. b == 124) line

-- whether a line has a byte; one without is counted and passed over
abbrev pub is_filled : List ℕ → Bool
is_filled [] = false
is_filled (b ∷ bs) = true

-- the lines that have a byte
abbrev pub filled : List (List ℕ) → List (List ℕ)
filled ls = filter is_filled ls

-- the lines after the header, which is the first that has a byte
abbrev pub data_lines : List (List ℕ) → List (List ℕ)
data_lines ls = drop 1 (filled ls)

-- whether a line begins with a byte order mark
abbrev pub begins_with_mark : List ℕ → Bool
begins_with_mark (a ∷ b ∷ c ∷ rest) = (a == 239) && (b == 187) && (c == 191)
begins_with_mark _ = false

-- no byte of a text is this one
abbrev pub HasNo : ℕ → List ℕ → Type 0
HasNo byte text = All (λ b. b ≢ byte) text

-- no byte ends a line
abbrev pub HasNoEnd : List ℕ → Type 0
HasNoEnd line = HasNo 10 line

-- no byte ends a field
abbrev pub HasNoBar : List ℕ → Type 0
HasNoBar field = HasNo 124 field
