use Rattle.std.proofs.Common.{◌≡◌, suc, ◌-◌, IsSome, arith, nat_eq}
use Rattle.std.proofs.lemmas.List.Elements.{All-get_or}
use Rattle.std.specs.HashMap.{get}
use Rattle.snb_read_model.specs.Distance.{IsDistance}
use Rattle.snb_reach.proofs.LevelLemmas.{begins, ends_level}
use Rattle.snb_reach.proofs.LookLemmas.{all_met, known_more}
use Rattle.snb_reach.proofs.levels.grow.Goals as goal

pub loop-person-init : goal.loop-person-init
loop-person-init c =
    let up : c.args.level ≡ suc (c.args.level - 1) = omega (arith, c.requires.above) in
    record {
      growing = rw c.new-next.ensures.items (begins c.args.graph.now c.args.start c.args.level (c.args.level - 1) _ _ up c.requires.grown);
      friends = λ k d low. absurd (omega arith);
    }

pub meet_friends-requires-clause-reached : goal.meet_friends-requires-clause-reached
meet_friends-requires-clause-reached c =
    All-get_or (λ q. IsDistance c.args.graph.now c.args.start q (c.args.level - 1)) c.args.last.now c.loop-person.person-index 0 c.loop-person-test.true c.requires.grown.level_only

pub loop-person-preserved : goal.loop-person-preserved
loop-person-preserved c =
    let after = c.in_ok-meet_friends.ensures in
    record {
      growing = after.growing;
      friends = known_more c.args.graph.now (λ q. IsSome (get nat_eq c.loop-person.met q)) (λ q. IsSome (get nat_eq c.meet_friends.new.met q)) c.args.last.now c.loop-person.person-index 0 c.loop-person-test.true after.stays
          after.friends c.loop-person.invariant.friends;
    }

pub returns : goal.returns
returns c =
    let rows = c.args.graph.now in
    let up : c.args.level ≡ suc (c.args.level - 1) = omega (arith, c.requires.above) in
    ends_level rows c.args.start c.args.level (c.args.level - 1) (get nat_eq c.args.met.now) (get nat_eq c.loop-person.met) c.args.last.now _ up c.requires.grown c.loop-person.invariant.growing
    (all_met rows (λ q. IsSome (get nat_eq c.loop-person.met q)) c.args.last.now c.loop-person.person-index c.loop-person-test.false c.loop-person.invariant.friends)
