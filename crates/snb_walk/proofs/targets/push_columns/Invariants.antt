use Rattle.std.proofs.Common.{◌≡◌, ◌++◌, drop, map}
use Rattle.snb_walk.specs.Targets.{target_at}
use Rattle.snb_walk.proofs.targets.push_columns.Given as goal

abbrev pub invariant-loop-column : goal.invariant-loop-column
invariant-loop-column l =
    l.targets.items ++ map (target_at l.row) (drop l.column-index l.columns)
    ≡ l.initial.targets.items ++ map (target_at l.row) l.columns
