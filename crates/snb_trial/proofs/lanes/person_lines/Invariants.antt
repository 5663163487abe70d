use Rattle.std.proofs.Common.{◌≡◌}
use Rattle.snb_trial.specs.Trial.{person_lane, lane}
use Rattle.snb_trial.proofs.lanes.person_lines.Given as goal

abbrev pub invariant-loop-before : goal.invariant-loop-before
invariant-loop-before l = l.lines.items ≡ lane (person_lane l.part) l.before
