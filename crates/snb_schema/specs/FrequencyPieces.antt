-- A text of frequencies, read piece by piece. Cited by contracts of private functions alone.
use Rattle.std.specs.Prelude.{◌≡◌, ℕ, ◌<◌, ◌==◌, List, [], ◌∷◌, ◌++◌}
use Rattle.std.specs.List.{slice_split}
use Rattle.snb_base.specs.Spellings.{EachSpells}
use Rattle.snb_schema.specs.Frequencies.{SpellsFrequency}
use Rattle.snb_schema.specs.Lines.{HasNo}

-- a text is cut at its first c
pub record IsCutAtFirst (c : ℕ) (text front back : List ℕ) : Type 0 where
  pub first : HasNo c front
  pub joined : text ≡ front ++ c ∷ back

-- the queries rise, and the first is above `last`
abbrev pub RisesAfter : ℕ → List (ℕ × ℕ) → Type 0
RisesAfter last [] = Unit {0}
RisesAfter last (pair ∷ pairs) = (last < pair.0) × RisesAfter pair.0 pairs

-- the pieces spell these pairs, whose queries rise from above `last`
pub record SpellsAfter (last : ℕ) (x : List ℕ) (pairs : List (ℕ × ℕ)) : Type 0 where
  pub spelled : EachSpells SpellsFrequency (slice_split (λ b. b == 44) x) pairs
  pub rising : RisesAfter last pairs
