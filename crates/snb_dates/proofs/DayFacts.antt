-- The day numbers of `jiff` are those of the calendar.
use Rattle.std.proofs.Common.{◌≡◌, ◌+◌, ◌-◌, ◌≤◌, ℕ, zero, suc, refl, ap, arith, pos, neg_ℤ, ◌+ℤ◌, ◌≤ℤ◌}
use Rattle.jiff_core.specs.Calendar.{day_count, days_from_civil, days_in_year, day_of_year}
use Rattle.jiff_core.specs.Calendar as Jiff
use Rattle.jiff_core.proofs.CalendarLemmas.{day_count-day_of_year, day_count-epoch, day_count-next_year, days_from_civil-day_count}
use Rattle.jiff_core.proofs.SignedLemmas.{signed_arith}
use Rattle.jiff_core.specs.declared.civil.date.Date.{Date}
use Rattle.jiff_core.specs.Date.{epoch_day}
use Rattle.snb_base.specs.Calendar.{day_number, days_of_months, days_of_years, month_length}

days_of_years-suc : (n : ℕ) → days_of_years (suc n) ≡ days_of_years n + days_in_year (pos (1970 + n))
unfolding days_of_years
days_of_years-suc n = refl

days_of_years-zero : days_of_years 0 ≡ 0
unfolding days_of_years
days_of_years-zero = refl

-- 1 January of each year
year_start : (n : ℕ) → day_count (pos (1970 + n)) 1 1 ≡ 4371953 + days_of_years n
year_start zero = omega (arith, day_count-epoch, days_of_years-zero)
year_start (suc n) =
    let low : neg_ℤ (pos 10000) ≤ℤ pos (1970 + n) = omega (arith, signed_arith) in
    let next : pos (1970 + suc n) ≡ pos (1970 + n) +ℤ pos 1 = omega (arith, signed_arith) in
    omega (arith, day_count-next_year (pos (1970 + n)) (pos (1970 + suc n)) low next, year_start n, days_of_years-suc n)

-- the months before
month_start : (y n : ℕ) → Jiff.days_of_months (pos y) n ≡ days_of_months y n
unfolding days_of_months Jiff.days_of_months
month_start y zero = refl
month_start y (suc n) = ap (λ k. k + month_length y (suc n)) (month_start y n)

-- the day number of `jiff` is that of the calendar
pub days_from_civil-day_number : (y m d : ℕ) → 1970 ≤ y → 1 ≤ d → days_from_civil (pos y) m d ≡ pos (day_number y m d)
days_from_civil-day_number y m d low first =
    let same : 1970 + (y - 1970) ≡ y = omega arith in
    let start = rw same at (year_start (y - 1970)) in
    omega (arith, signed_arith, days_from_civil-day_count (pos y) m d, day_count-day_of_year (pos y) m d first, start, month_start y (m - 1))

pub epoch_day-is : (date : Date) (y m d : ℕ) → date.year ≡ pos y → date.month ≡ m → date.day ≡ d → 1970 ≤ y → 1 ≤ d → epoch_day date ≡ pos (day_number y m d)
epoch_day-is date y m d ey em ed low first = rw (ey, em, ed) (days_from_civil-day_number y m d low first)
