-- The texts so far.
use Rattle.std.proofs.Common.{length}
use Rattle.std.specs.List.{AllZip}
use Rattle.snb_validation_cases.specs.Takes.{TakesSome}
use Rattle.snb_validation_cases.specs.Values.{IsString}
use Rattle.snb_validation_cases.proofs.taken.texts_at.Given as goal

abbrev pub invariant-items : goal.invariant-items
invariant-items l = TakesSome 0 (λ ds. AllZip IsString ds l.texts.items) l.fn.reader l.reader

abbrev pub decreases-items : goal.decreases-items
decreases-items l = length l.reader
