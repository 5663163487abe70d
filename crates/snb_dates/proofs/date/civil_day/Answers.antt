use Rattle.std.proofs.Common.{◌≡◌, ◌∙◌, refl, pos, arith, rules, w32, FitsSigned}
use Rattle.std.proofs.lemmas.Int.{ints, to_z-of_z}
use Rattle.snb_base.specs.Calendar.{IsRealDay, day_number}
use Rattle.snb_dates.proofs.DayFacts.{epoch_day-is}
use Rattle.snb_dates.proofs.date.civil_day.Goals as goal

-- the day is real, and the calendar's number of it is the one that `jiff` gives
numbered : (c : goal.After-to_unix_epoch_day)
    → IsRealDay c.args.year c.args.month c.args.day × (c.to_unix_epoch_day.result ≡ pos (day_number c.args.year c.args.month c.args.day))
numbered c =
    let ymd = c.in-Ok.ensures.value in
    let year : c.in-Ok.date.year ≡ pos c.args.year = omega (arith, ints, ymd.0) in
    let month : c.in-Ok.date.month ≡ c.args.month = omega (arith, ints, ymd.1) in
    let day : c.in-Ok.date.day ≡ c.args.day = omega (arith, ints, ymd.2) in
    let inside = rw (year, month, day) at c.in-Ok.date.day_in in
    let months = rw month at c.in-Ok.date.month_in in (
      record { first_year = omega arith; last_year = omega arith; first_month = months.0; last_month = months.1; first_day = inside.0; last_day = inside.1 },
      c.to_unix_epoch_day.ensures.value
          ∙ rw c.to_plain.ensures (epoch_day-is c.in-Ok.date c.args.year c.args.month c.args.day year month day (omega arith) inside.0),
    )

pub overflow_cast-result : goal.overflow_cast-result
overflow_cast-result c =
    let (_, n) = numbered c in
    let fits : FitsSigned w32 c.to_unix_epoch_day.result = search rules in
    grind (arith, ints)

pub returns-in-Ok-clause-exact : goal.returns-in-Ok-clause-exact
returns-in-Ok-clause-exact c =
    let (real, n) = numbered c in
    let fits : FitsSigned w32 c.to_unix_epoch_day.result = search rules in
    (real, rw (to_z-of_z, n) refl)

pub returns-in-Ok-clause-last : goal.returns-in-Ok-clause-last
returns-in-Ok-clause-last c =
    let (_, n) = numbered c in
    let fits : FitsSigned w32 c.to_unix_epoch_day.result = search rules in
    let top = rw n at c.to_unix_epoch_day.ensures.bound in
    rw (to_z-of_z, n) (omega (arith, ints, top.1))
