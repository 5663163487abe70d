-- The stays so far.
use Rattle.std.proofs.Common.{length}
use Rattle.std.specs.List.{AllZip}
use Rattle.snb_validation_cases.specs.Takes.{TakesSome}
use Rattle.snb_validation_cases.specs.Replies.{IsStayData}
use Rattle.snb_validation_cases.proofs.taken.stays_at.Given as goal

abbrev pub invariant-items : goal.invariant-items
invariant-items l = TakesSome 1 (λ ds. AllZip IsStayData ds l.stays.items) l.fn.reader l.reader

abbrev pub decreases-items : goal.decreases-items
decreases-items l = length l.reader
