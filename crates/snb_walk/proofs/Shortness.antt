-- Where the targets of a walk stood, and how many steps it has at most.
use Rattle.std.proofs.Common.{ℕ, ◌+◌, ◌-◌, ◌*◌, ◌/◌, ◌<◌, ◌≤◌, List, [], ◌∷◌, length, arith}
use Rattle.std.proofs.lemmas.Nat.{le-div}
use Rattle.snb_schema.specs.declared.row.Row.{Row}
use Rattle.snb_ratio.specs.Chances.{ChanceFall}
use Rattle.snb_walk.specs.declared.target.Target.{Target}
use Rattle.snb_walk.specs.declared.target.Pick.{Pick}
use Rattle.snb_walk.specs.declared.target.Stop.{Stop}
use Rattle.snb_walk.specs.Targets.{WalkStep, reads_of, targets_in, targets_of}
use Rattle.snb_walk.specs.Walks.{GoesOn, StoodBefore, TargetsStood, WalksAreShort}
use Rattle.snb_base.proofs.Laws.{at_contains}

module _ (g : List Row) (pick : Pick) (chance : ChanceFall) (words : List ℕ) where
  stood_from : (steps : List WalkStep) (i : ℕ) (targets : List Target) (stop : Stop) → GoesOn g pick chance words i targets steps stop → StoodBefore targets steps
  stood_from [] i targets stop h = tt
  stood_from (x ∷ xs) i targets stop h = (at_contains targets _ x.0 h.0.picked, stood_from xs (i + 1) (targets_in (reads_of x.0) x.1) stop h.1)

  -- something was left of the chance before the last step
  last_step : (steps : List WalkStep) (x : WalkStep) (i : ℕ) (targets : List Target) (stop : Stop)
      → GoesOn g pick chance words i targets (x ∷ steps) stop → (i + length steps) * chance.down < chance.start
  last_step [] x i targets stop h = let c = h.0.goes.chance in omega arith
  last_step (y ∷ ys) x i targets stop h = let c = last_step ys y (i + 1) (targets_in (reads_of x.0) x.1) stop h.1 in omega arith

  short_from : 1 ≤ chance.down → (steps : List WalkStep) (targets : List Target) (stop : Stop)
      → GoesOn g pick chance words 0 targets steps stop → length steps ≤ (chance.start + chance.down - 1) / chance.down
  short_from d [] targets stop h = omega arith
  short_from d (x ∷ xs) targets stop h =
      let c = last_step xs x 0 targets stop h in
      le-div (length (x ∷ xs)) (chance.start + chance.down - 1) chance.down (omega arith) (omega arith)

pub targets_stood : TargetsStood
targets_stood g pick chance words query answer steps stop w = stood_from g pick chance words steps 0 (targets_of query answer) stop w.goes

pub walks_are_short : WalksAreShort
walks_are_short g pick chance words query answer steps stop d w = short_from g pick chance words d steps (targets_of query answer) stop w.goes
