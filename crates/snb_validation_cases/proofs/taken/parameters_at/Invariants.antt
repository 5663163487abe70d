-- The values so far.
use Rattle.std.proofs.Common.{◌≡◌, length, map}
use Rattle.serde_json.specs.View.{view}
use Rattle.snb_validation_cases.specs.Takes.{TakesSome}
use Rattle.snb_validation_cases.proofs.taken.parameters_at.Given as goal

abbrev pub invariant-items : goal.invariant-items
invariant-items l = TakesSome 0 (λ ds. ds ≡ map view l.values.items) l.fn.reader l.reader

abbrev pub decreases-items : goal.decreases-items
decreases-items l = length l.reader
