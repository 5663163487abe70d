-- Ratios of two spans of time, how they are spelled, and when an operation is due under one.
use Rattle.std.specs.Prelude.{◌≡◌, ℕ, ◌+◌, ◌-◌, ◌*◌, ◌/◌, ◌^◌, ◌≤◌, ◌⊎◌, List, ◌∷◌, ◌++◌, length}
use Rattle.std.specs.List.{AllByRecursion}
use Rattle.snb_base.specs.Calendar.{IsDigit}
use Rattle.snb_base.specs.Spellings.{Num, value_after}
use Rattle.snb_ratio.specs.declared.ratio.TheConstants.{MOST_MILLIONTHS, MOST_UNITS}

-- the greatest ratio, in millionths
abbrev pub most_millionths : ℕ
most_millionths = MOST_MILLIONTHS

-- the ratio 1, in millionths: a run takes as long as the span of its streams
abbrev pub real_time : ℕ
real_time = 1000000

-- x is one to six decimal digits, which stand after a point and are worth n millionths
pub record SpellsPart (x : List ℕ) (n : ℕ) : Type 0 where
  pub digits : AllByRecursion IsDigit x
  pub some : 1 ≤ length x
  pub few : length x ≤ 6
  pub value : n ≡ value_after 0 x * 10 ^ (6 - length x)

-- x is a whole number below 10000, or it and, after a point, a part, and is worth n millionths
abbrev pub SpellsMillionths : List ℕ → ℕ → Type 0
SpellsMillionths x n =
    (whole : List ℕ) × (units : ℕ) × Num whole units MOST_UNITS
    × (((x ≡ whole) × (n ≡ 1000000 * units))
    ⊎ ((part : List ℕ) × (rest : ℕ) × (x ≡ whole ++ 46 ∷ part) × SpellsPart part rest
    × (n ≡ 1000000 * units + rest)))

-- x spells the ratio of num millionths, from a millionth to a thousand
abbrev pub SpellsRatio : List ℕ → ℕ → Type 0
SpellsRatio x num = (1 ≤ num) × (num ≤ most_millionths) × SpellsMillionths x num

-- under a ratio of num millionths that begins at t0, what is planned for t is due so many
-- milliseconds after the start
abbrev pub due_of : ℕ → ℕ → ℕ → ℕ
due_of num t0 t = (t - t0) * num / 1000000

-- what is planned for no earlier is due no earlier
abbrev pub DueRises : Type 0
DueRises = (num t0 t later : ℕ) → t ≤ later → due_of num t0 t ≤ due_of num t0 later

-- a text spells one ratio at most
abbrev pub OneRatio : Type 0
OneRatio = (x : List ℕ) (m n : ℕ) → SpellsRatio x m → SpellsRatio x n → m ≡ n
