-- The cells so far.
use Rattle.std.proofs.Common.{take}
use Rattle.snb_validation_cases.specs.Replies.{IsCellIn}
use Rattle.snb_validation_cases.specs.Takes.{TakesSome}
use Rattle.snb_validation_cases.specs.Values.{AreAlong}
use Rattle.snb_validation_cases.proofs.taken.row_at.Given as goal

abbrev pub invariant-loop-i : goal.invariant-loop-i
invariant-loop-i l =
    TakesSome 2 (λ ds. AreAlong IsCellIn (take l.i l.fn.columns) ds l.cells.items) l.fn.reader l.reader
