use Rattle.std.proofs.Common.{◌≢◌, ◌<◌, ℕ, get_or}
use Rattle.snb_schema.specs.declared.op.InsertKind.{InsertKind}
use Rattle.snb_schema.specs.InsertLines.{kind_number}
use Rattle.snb_streams.proofs.kinds.kind_of_number.Given as goal

abbrev pub invariant-loop-kind : goal.invariant-loop-kind
invariant-loop-kind l = (k : ℕ) (d : InsertKind) → k < l.kind-index → kind_number (get_or l.kinds k d) ≢ l.number
