use Rattle.std.proofs.Common.{◌≡◌}
use Rattle.snb_trial.specs.Trial.{forum_lane, lane}
use Rattle.snb_trial.proofs.lanes.forum_lines.Given as goal

abbrev pub invariant-loop-before : goal.invariant-loop-before
invariant-loop-before l = l.lines.items ≡ lane (forum_lane l.part) l.before
