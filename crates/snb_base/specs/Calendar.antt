-- Days and moments of the proleptic Gregorian calendar from 1970 on, and how they are spelled.
use Rattle.std.specs.Prelude.{◌≡◌, ◌==◌, ◌&&◌, ◌||◌, ◌+◌, ◌-◌, ◌*◌, ◌/◌, ◌%◌, ◌≤◌, ℕ, zero, suc, Bool, not, List, [], ◌∷◌, ◌++◌, if◌then◌else◌}
use Rattle.snb_base.specs.declared.bounds.TheConstants.{LAST_YEAR}

-- each fourth year, but of the years that end a century only each fourth
abbrev pub is_leap : ℕ → Bool
is_leap y = (y % 4 == 0) && (not (y % 100 == 0) || (y % 400 == 0))

-- the days of the month m of the year y
abbrev pub month_length : ℕ → ℕ → ℕ
month_length y m =
    if m == 2 then (if is_leap y then 29 else 28)
    else (if (m == 4) || (m == 6) || (m == 9) || (m == 11) then 30 else 31)

-- the days of the first n years from 1970 on
unfoldable pub days_of_years : ℕ → ℕ
days_of_years zero = 0
days_of_years (suc n) = days_of_years n + (if is_leap (1970 + n) then 366 else 365)

-- the days of the first n months of the year y
unfoldable pub days_of_months : ℕ → ℕ → ℕ
days_of_months y zero = 0
days_of_months y (suc n) = days_of_months y n + month_length y (suc n)

-- the calendar has this day, from 1970 to the greatest year
pub record IsRealDay (y m d : ℕ) : Type 0 where
  pub first_year : 1970 ≤ y
  pub last_year : y ≤ LAST_YEAR
  pub first_month : 1 ≤ m
  pub last_month : m ≤ 12
  pub first_day : 1 ≤ d
  pub last_day : d ≤ month_length y m

-- days since 1970-01-01
abbrev pub day_number : ℕ → ℕ → ℕ → ℕ
day_number y m d = days_of_years (y - 1970) + days_of_months y (m - 1) + (d - 1)

-- two decimal digits
abbrev pub two_digits : ℕ → List ℕ
two_digits n = (48 + n / 10) ∷ (48 + n % 10) ∷ []

-- `YYYY-MM-DD`
abbrev pub day_text : ℕ → ℕ → ℕ → List ℕ
day_text y m d =
    two_digits (y / 100) ++ two_digits (y % 100) ++ (45 ∷ two_digits m) ++ (45 ∷ two_digits d)

-- x spells a real day, whose midnight is n milliseconds after 1970-01-01
abbrev pub SpellsDay : List ℕ → ℕ → Type 0
SpellsDay x n =
    (y : ℕ) × (m : ℕ) × (d : ℕ) × IsRealDay y m d × (x ≡ day_text y m d)
    × (n ≡ 86400000 * day_number y m d)

-- a clock shows this time
pub record IsRealTime (hour minute second millis : ℕ) : Type 0 where
  pub last_hour : hour ≤ 23
  pub last_minute : minute ≤ 59
  pub last_second : second ≤ 59
  pub last_milli : millis ≤ 999

-- milliseconds since midnight
abbrev pub time_number : ℕ → ℕ → ℕ → ℕ → ℕ
time_number hour minute second millis = 3600000 * hour + 60000 * minute + 1000 * second + millis

-- `Thh:mm:ss.mmm+0000`
abbrev pub time_text : ℕ → ℕ → ℕ → ℕ → List ℕ
time_text hour minute second millis =
    (84 ∷ two_digits hour) ++ (58 ∷ two_digits minute) ++ (58 ∷ two_digits second)
    ++ (46 ∷ (48 + millis / 100) ∷ two_digits (millis % 100)) ++ (43 ∷ 48 ∷ 48 ∷ 48 ∷ 48 ∷ [])

-- x spells a real time of day of n milliseconds
abbrev pub SpellsTime : List ℕ → ℕ → Type 0
SpellsTime x n =
    (h : ℕ) × (i : ℕ) × (s : ℕ) × (k : ℕ) × IsRealTime h i s k × (x ≡ time_text h i s k)
    × (n ≡ time_number h i s k)

-- x spells a real day and time of day, n milliseconds after 1970-01-01T00:00:00
abbrev pub SpellsMoment : List ℕ → ℕ → Type 0
SpellsMoment x n =
    (day : List ℕ) × (time : List ℕ) × (a : ℕ) × (b : ℕ) × (x ≡ day ++ time) × SpellsDay day a
    × SpellsTime time b × (n ≡ a + b)

-- a byte of `0` to `9`
abbrev pub IsDigit : ℕ → Type 0
IsDigit b = (48 ≤ b) × (b ≤ 57)
