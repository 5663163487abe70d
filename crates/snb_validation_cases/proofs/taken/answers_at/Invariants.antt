-- The answers so far.
use Rattle.std.proofs.Common.{take}
use Rattle.snb_validation_cases.specs.Replies.{IsAnswerTo}
use Rattle.snb_validation_cases.specs.Takes.{TakesEach}
use Rattle.snb_validation_cases.specs.Values.{AreAlong}
use Rattle.snb_validation_cases.proofs.taken.answers_at.Given as goal

abbrev pub invariant-loop-i : goal.invariant-loop-i
invariant-loop-i l =
    TakesEach 4 (λ ds. AreAlong IsAnswerTo (take l.i l.fn.queries) ds l.answers.items) l.fn.reader l.reader
