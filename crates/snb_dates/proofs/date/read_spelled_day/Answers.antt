use Rattle.std.proofs.Common.{◌≡◌, ◌+◌, ◌*◌, arith}
use Rattle.snb_base.specs.Calendar.{day_number}
use Rattle.snb_dates.proofs.TextFacts.{DayParts, day_spelled, two_at, year_at}
use Rattle.snb_dates.proofs.date.read_spelled_day.Goals as goal

pub returns-clause-spelled : goal.returns-clause-spelled
returns-clause-spelled c =
    let x = c.args.text.now in
    let (high, h) = c.in_ok-high.ensures in
    let (low, l) = c.in_ok-low.ensures in
    let (months, m) = c.in_ok-month.ensures in
    let (days, d) = c.in_ok-day.ensures in
    let (civil, count) = c.in_ok-days.ensures.exact in
    let year : c.from.result * 100 + c.from-2.result ≡ year_at x = omega (arith, c.from.ensures, c.from-2.ensures) in
    let month : c.in_ok-month.month ≡ two_at x 5 6 = omega arith in
    let day : c.in_ok-day.day ≡ two_at x 8 9 = omega arith in
    let parts : DayParts x = record {
      size = c.if-text-ne10.false;
      dash = c.if-text-ne45.false;
      second_dash = c.if-text-ne45-2.false;
      high = high;
      low = low;
      month = months;
      day = days;
      real = rw (year, month, day) at civil;
    } in
    let number = rw (year, month, day) at count in
    let value : c.from-3.result * 86400000 ≡ 86400000 * day_number (year_at x) (two_at x 5 6) (two_at x 8 9) = omega (arith, number, c.from-3.ensures) in
    rw value (day_spelled x parts)
