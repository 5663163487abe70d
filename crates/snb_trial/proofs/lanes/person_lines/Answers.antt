use Rattle.std.proofs.Common.{◌+◌, ℕ, ap, arith, length}
use Rattle.snb_trial.specs.Trial.{person_lane}
use Rattle.snb_trial.proofs.Counts.{persons_few}
use Rattle.snb_trial.proofs.Numbered.{lane_grows}
use Rattle.snb_trial.proofs.lanes.person_lines.Goals as goal

pub push_person-requires-clause-room : goal.push_person-requires-clause-room
push_person-requires-clause-room c =
    let size = ap length c.loop-before.invariant in
    let few = persons_few c.args.part c.loop-before.before in
    omega (arith, size, few)

pub loop-before-preserved : goal.loop-before-preserved
loop-before-preserved c =
    lane_grows (person_lane c.args.part) c.loop-before.before (c.from.result + 1) c.loop-before.lines.items c.push_person.new.lines.items
    (ap (λ (k : ℕ). k + 1) c.from.ensures) c.loop-before.invariant c.in_ok-push_person.ensures
