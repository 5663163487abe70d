-- What a JSON value is, as `serde_json` reads it: a text, a number, or an array.
use Rattle.std.specs.Prelude.{◌≡◌, ◌≤◌, ℕ, List, [], ◌∷◌, Some, option_and_then}
use Rattle.serde_json.specs.Data.{Data}
use Rattle.serde_json.specs.Find.{as_array, as_number, as_str, as_u64}
use Rattle.serde_json.specs.View.{items_of}

-- a string
abbrev pub IsString : Data → List ℕ → Type 0
IsString d text = as_str d ≡ Some text

-- a number from 0 up to `most`, which is read as an integer and not as a float
abbrev pub IsNumberTo : ℕ → Data → ℕ → Type 0
IsNumberTo most d n = (option_and_then as_u64 (as_number d) ≡ Some n) × (n ≤ most)

-- an array whose values together are this
abbrev pub IsArray : {X : Type 0} → (List Data → X → Type 0) → Data → X → Type 0
IsArray R d x = (ds : List Data) × (as_array d ≡ Some (items_of ds)) × R ds x

-- there is a value for each column, and in that column it is the thing beside it
abbrev pub AreAlong : {C X : Type 0} → (C → Data → X → Type 0) → List C → List Data → List X
    → Type 0
AreAlong R [] [] [] = Unit {0}
AreAlong R (c ∷ cs) (d ∷ ds) (x ∷ xs) = R c d x × AreAlong R cs ds xs
AreAlong R _ _ _ = ⊥
