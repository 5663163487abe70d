-- Chances that fall from step to step, and how they are spelled.
use Rattle.std.specs.Prelude.{◌≡◌, ℕ, ◌≤◌, List, ◌∷◌, ◌++◌}
use Rattle.snb_base.specs.Spellings.{Num}
use Rattle.snb_ratio.specs.declared.chance.TheConstants.{CERTAIN}

-- the chance of the first step, and by how much it falls with each step, in millionths
pub record ChanceFall : Type 0 where
  pub start : ℕ
  pub down : ℕ

-- it begins with certainty at most, and falls by something, by no more than certainty
pub record IsBounded (chance : ChanceFall) : Type 0 where
  pub most : chance.start ≤ CERTAIN
  pub falls : 1 ≤ chance.down
  pub deep : chance.down ≤ CERTAIN

-- x is `S:D`, the first chance and by how much it falls
pub record SpellsChance (x : List ℕ) (chance : ChanceFall) : Type 0 where
  pub first : List ℕ
  pub fall : List ℕ
  pub splits : x ≡ first ++ 58 ∷ fall
  pub begins : Num first chance.start CERTAIN
  pub goes_down : Num fall chance.down CERTAIN
  pub falls : 1 ≤ chance.down

-- a text spells one chance at most
abbrev pub OneChance : Type 0
OneChance =
    (x : List ℕ) (one other : ChanceFall) → SpellsChance x one → SpellsChance x other → one ≡ other
