use Rattle.std.proofs.Common.{inr}
use Rattle.snb_base.specs.Calendar.{SpellsDay, SpellsMoment}
use Rattle.snb_base.specs.Spellings.{last_time}
use Rattle.snb_dates.proofs.MomentFacts.{day_dash, moment_dash, moment_digits, one_day, one_moment, one_spelled}
use Rattle.snb_dates.proofs.law.one_moment.Goals as goal

pub returns-clause-date : goal.returns-clause-date
returns-clause-date c = λ x m n s t. one_spelled SpellsMoment moment_dash one_moment x m n last_time s.1 t.1

pub returns-clause-day : goal.returns-clause-day
returns-clause-day c = λ x m n s t. one_spelled SpellsDay day_dash one_day x m n last_time s.1 t.1

pub returns-clause-date_digits : goal.returns-clause-date_digits
returns-clause-date_digits c = λ n small. (small, inr (moment_digits n small))

pub returns-clause-day_digits : goal.returns-clause-day_digits
returns-clause-day_digits c = λ n small. (small, inr (moment_digits n small))
