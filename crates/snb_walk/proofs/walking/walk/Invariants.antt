use Rattle.std.proofs.Common.{◌≡◌, ◌+◌, ◌≤◌}
use Rattle.snb_ratio.specs.declared.chance.TheConstants.{CERTAIN}
use Rattle.snb_walk.specs.Targets.{targets_of}
use Rattle.snb_walk.specs.Walks.{left_before}
use Rattle.snb_walk.proofs.Going.{LeadsTo}
use Rattle.snb_walk.proofs.walking.walk.Given as goal

abbrev pub invariant-walking : goal.invariant-walking
invariant-walking g l = record {
  left : l.left ≡ left_before l.step l.fn.chance;
  few : l.step + l.left ≤ CERTAIN;
  leads : LeadsTo l.graph l.policy.pick l.fn.chance l.words (targets_of l.query l.start) l.steps l.step l.targets.items;
}

abbrev pub decreases-walking : goal.decreases-walking
decreases-walking g l = l.left
