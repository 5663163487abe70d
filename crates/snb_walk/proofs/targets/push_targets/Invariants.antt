use Rattle.std.proofs.Common.{◌≡◌, ◌++◌, drop}
use Rattle.snb_walk.specs.Targets.{targets_of}
use Rattle.snb_walk.proofs.targets.push_targets.Given as goal

abbrev pub invariant-loop-row : goal.invariant-loop-row
invariant-loop-row l =
    l.targets.items ++ targets_of l.query (drop l.row-index l.row-items)
    ≡ l.initial.targets.items ++ targets_of l.query l.row-items
