use Rattle.std.proofs.Common.{arith}
use Rattle.snb_base.specs.Calendar.{SpellsMoment}
use Rattle.snb_dates.proofs.SpellingFacts.{in_words}
use Rattle.snb_dates.proofs.date.read_date.Goals as goal

pub returns-then-text-eq45 : goal.returns-then-text-eq45
returns-then-text-eq45 c =
    let x = c.args.text.now in
    let read = c.read_spelled_moment.ensures in
    in_words (SpellsMoment x) x 253402300799999 c.read_spelled_moment.result c.if-text-gt4.true c.if-text-eq45.true (omega arith) read.last read.spelled
