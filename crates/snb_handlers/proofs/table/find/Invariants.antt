use Rattle.std.proofs.Common.{◌≡◌, ℕ, ◌<◌, get_or}
use Rattle.snb_handlers.specs.Table.{handled_kinds}
use Rattle.snb_handlers.proofs.table.find.Given as goal

abbrev pub invariant-loop-one : goal.invariant-loop-one
invariant-loop-one g l = (k : ℕ) → k < l.one-index → get_or (handled_kinds l.items) k l.kind ≡ l.kind → ⊥
