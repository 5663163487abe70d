use Rattle.snb_book.specs.Heads.{AreFirstsBelow}
use Rattle.snb_book.proofs.book.first_heads.Given as goal

abbrev pub invariant-loop-lane : goal.invariant-loop-lane
invariant-loop-lane l = AreFirstsBelow l.fn.schedule l.heads l.finished l.fn.least l.lane l.firsts
