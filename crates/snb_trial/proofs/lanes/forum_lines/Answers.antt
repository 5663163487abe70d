use Rattle.std.proofs.Common.{◌+◌, ℕ, ap, arith, length}
use Rattle.snb_trial.specs.Trial.{forum_lane}
use Rattle.snb_trial.proofs.Counts.{forums_few}
use Rattle.snb_trial.proofs.Numbered.{lane_grows}
use Rattle.snb_trial.proofs.lanes.forum_lines.Goals as goal

pub push_forum-requires-clause-room : goal.push_forum-requires-clause-room
push_forum-requires-clause-room c =
    let size = ap length c.loop-before.invariant in
    let few = forums_few c.args.part c.loop-before.before in
    omega (arith, size, few)

pub loop-before-preserved : goal.loop-before-preserved
loop-before-preserved c =
    lane_grows (forum_lane c.args.part) c.loop-before.before (c.from.result + 1) c.loop-before.lines.items c.push_forum.new.lines.items
    (ap (λ (k : ℕ). k + 1) c.from.ensures) c.loop-before.invariant c.in_ok-push_forum.ensures
