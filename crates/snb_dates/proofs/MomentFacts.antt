-- A text spells one date and one day at most, and the digits of a moment spell it.
use Rattle.std.proofs.Common.{◌≡◌, ◌∙◌, ◌<◌, ◌≤◌, ◌⊎◌, ℕ, List, get_or, take, drop, length, inl, inr, sym, arith}
use Rattle.std.proofs.lemmas.List.{get_or-take, length-take}
use Rattle.std.specs.Fmt.{decimal}
use Rattle.snb_base.proofs.Laws.{number_spelled}
use Rattle.snb_base.specs.Calendar.{SpellsDay, SpellsMoment, SpellsTime}
use Rattle.snb_base.specs.Spellings.{Num, last_time}
use Rattle.snb_dates.proofs.SpellingFacts.{no_number}
use Rattle.snb_dates.proofs.TextFacts.{day_parts, moment_parts, time_parts}

-- one day in words
pub one_day : (x : List ℕ) (m n : ℕ) → SpellsDay x m → SpellsDay x n → m ≡ n
one_day x m n s t = (day_parts x m s).1 ∙ sym (day_parts x n t).1

-- one time of day
one_time : (x : List ℕ) (m n : ℕ) → SpellsTime x m → SpellsTime x n → m ≡ n
one_time x m n s t = (time_parts x m s).1 ∙ sym (time_parts x n t).1

-- one moment in words
pub one_moment : (x : List ℕ) (m n : ℕ) → SpellsMoment x m → SpellsMoment x n → m ≡ n
one_moment x m n s t =
    let (a, b, day, time, value) = moment_parts x m s in
    let (d, e, other_day, other_time, other) = moment_parts x n t in
    omega (arith, value, other, one_day (take 10 x) a d day other_day, one_time (drop 10 x) b e time other_time)

-- one number
one_number : (x : List ℕ) (m n most : ℕ) → Num x m most → Num x n most → m ≡ n
one_number x m n most s t = s.value ∙ sym t.value

-- the text has a dash as its fifth byte
abbrev pub HasDash : List ℕ → Type 0
HasDash x = (4 < length x) × (get_or x 4 0 ≡ 45)

-- a day in words has that dash
pub day_dash : (x : List ℕ) (n : ℕ) → SpellsDay x n → HasDash x
day_dash x n s = let parts = (day_parts x n s).0 in (omega (arith, parts.size), parts.dash)

-- a moment in words has that dash
pub moment_dash : (x : List ℕ) (n : ℕ) → SpellsMoment x n → HasDash x
moment_dash x n s =
    let (a, b, day, time, value) = moment_parts x n s in
    let (long, dash) = day_dash (take 10 x) a day in
    (omega (arith, long, length-take 10 x), sym (get_or-take 10 x 4 0 (omega arith)) ∙ dash)

-- where words have that dash and spell one number at most, so do words and numbers together
pub one_spelled : (Spells : List ℕ → ℕ → Type 0) → ((x : List ℕ) (n : ℕ) → Spells x n → HasDash x)
    → ((x : List ℕ) (m n : ℕ) → Spells x m → Spells x n → m ≡ n)
    → (x : List ℕ) (m n most : ℕ) → Spells x m ⊎ Num x m most → Spells x n ⊎ Num x n most → m ≡ n
one_spelled Spells dash one x m n most (inl s) (inl t) = one x m n s t
one_spelled Spells dash one x m n most (inl s) (inr t) = let (long, fifth) = dash x m s in absurd (no_number x n most long fifth t)
one_spelled Spells dash one x m n most (inr s) (inl t) = let (long, fifth) = dash x n t in absurd (no_number x m most long fifth s)
one_spelled Spells dash one x m n most (inr s) (inr t) = one_number x m n most s t

-- the digits of a moment are a number
pub moment_digits : (n : ℕ) → n ≤ last_time → Num (decimal n) n last_time
moment_digits n small = number_spelled n last_time small (omega arith)
