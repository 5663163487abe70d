-- The rows so far.
use Rattle.std.proofs.Common.{length}
use Rattle.std.specs.List.{AllZip}
use Rattle.snb_validation_cases.specs.Replies.{IsRow}
use Rattle.snb_validation_cases.specs.Takes.{TakesSome}
use Rattle.snb_validation_cases.proofs.taken.answer_at.Given as goal

abbrev pub invariant-items : goal.invariant-items
invariant-items l = TakesSome 3 (λ ds. AllZip (IsRow l.fn.query) ds l.rows.items) l.fn.reader l.reader

abbrev pub decreases-items : goal.decreases-items
decreases-items l = length l.reader
