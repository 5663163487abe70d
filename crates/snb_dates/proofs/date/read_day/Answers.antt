use Rattle.std.proofs.Common.{arith}
use Rattle.snb_base.specs.Calendar.{SpellsDay}
use Rattle.snb_dates.proofs.SpellingFacts.{in_words}
use Rattle.snb_dates.proofs.date.read_day.Goals as goal

pub returns-then-text-eq45 : goal.returns-then-text-eq45
returns-then-text-eq45 c =
    let x = c.args.text.now in
    let read = c.read_spelled_day.ensures in
    in_words (SpellsDay x) x 253402214400000 c.read_spelled_day.result c.if-text-gt4.true c.if-text-eq45.true (omega arith) read.last read.spelled
