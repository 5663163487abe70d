-- The kinds so far have a handler, and no other.
use Rattle.std.proofs.Common.{◌≡◌, take}
use Rattle.snb_handlers.specs.Table.{kinds}
use Rattle.snb_edge.proofs.program.obey.Given as goal

abbrev pub invariant-loop-kind : goal.invariant-loop-kind
invariant-loop-kind g l = kinds l.handlers ≡ take l.kind-index l.kind-items
