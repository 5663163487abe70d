use Rattle.std.proofs.Common.{◌≡◌, suc, ◌-◌, Some, arith, get_or, nat_eq}
use Rattle.std.proofs.lemmas.Bool.{MatchBool-at_false, MatchBool-at_true}
use Rattle.std.proofs.lemmas.List.Elements.{All-get_or}
use Rattle.std.specs.HashMap.{get}
use Rattle.snb_read_model.specs.Distance.{FriendPath}
use Rattle.snb_reach.proofs.LookLemmas.{all_met, known_more}
use Rattle.snb_reach.proofs.SideLemmas.{begins, ends_level}
use Rattle.snb_reach.specs.Sides.{HasMetFriends, IsMeeting}
use Rattle.snb_reach.proofs.sides.grow.Goals as goal

pub loop-person-init : goal.loop-person-init
loop-person-init c =
    let up : c.args.level ≡ suc (c.args.level - 1) = omega (arith, c.requires.above) in
    record {
      side = rw c.new-next.ensures.items (begins c.args.graph.now c.args.start c.args.mark c.args.level (c.args.level - 1) _ _ up c.requires.side);
      keeps = λ q h. h;
      others = λ q. (λ h. h, λ h. h);
      friends = λ k d low. absurd (omega arith);
      len = rw c.new-next.ensures.items (omega arith);
    }

pub meet_friends-requires-clause-reached : goal.meet_friends-requires-clause-reached
meet_friends-requires-clause-reached c =
    All-get_or (λ q. FriendPath c.args.graph.now c.args.start q (c.args.level - 1)) c.args.last.now c.loop-person.person-index 0 c.loop-person-test.true c.requires.side.ends

pub loop-person-preserved : goal.loop-person-preserved
loop-person-preserved c =
    let g = c.args.graph.now in
    let more = MatchBool-at_false (IsMeeting g c.args.start c.args.mark c.args.level (get nat_eq c.loop-person.met))
    (HasMetFriends g c.args.start c.args.mark (get_or c.args.last.now c.loop-person.person-index 0) c.args.level (get nat_eq c.loop-person.met) (get nat_eq c.meet_friends.new.met) c.meet_friends.new.next.items) c.if-branch.false
    c.in_ok-meet_friends.ensures.met in
    record {
      side = more.side;
      keeps = λ q h. more.keeps q (c.loop-person.invariant.keeps q h);
      others = λ q. (λ h. (c.loop-person.invariant.others q).0 ((more.others q).0 h), λ h. (more.others q).1 ((c.loop-person.invariant.others q).1 h));
      friends = known_more g (λ q. get nat_eq c.loop-person.met q ≡ Some c.args.mark) (λ q. get nat_eq c.meet_friends.new.met q ≡ Some c.args.mark) c.args.last.now c.loop-person.person-index 0 c.loop-person-test.true more.keeps
          more.friends c.loop-person.invariant.friends;
      len = omega (arith, c.in_ok-meet_friends.ensures.len, c.loop-person.invariant.len);
    }

pub returns-then-branch-clause-met : goal.returns-then-branch-clause-met
returns-then-branch-clause-met c =
    let g = c.args.graph.now in
    let found = MatchBool-at_true (IsMeeting g c.args.start c.args.mark c.args.level (get nat_eq c.loop-person.met))
    (HasMetFriends g c.args.start c.args.mark (get_or c.args.last.now c.loop-person.person-index 0) c.args.level (get nat_eq c.loop-person.met) (get nat_eq c.meet_friends.new.met) c.meet_friends.new.next.items) c.if-branch.true
    c.in_ok-meet_friends.ensures.met in
    record { person = found.person; walk = found.walk; other = (c.loop-person.invariant.others found.person).0 found.other }

pub returns-clause-met : goal.returns-clause-met
returns-clause-met c =
    let rows = c.args.graph.now in
    let up : c.args.level ≡ suc (c.args.level - 1) = omega (arith, c.requires.above) in
    record {
      side = ends_level rows c.args.start c.args.mark c.args.level (c.args.level - 1) (get nat_eq c.args.met.now) (get nat_eq c.loop-person.met) c.args.last.now _ up c.requires.side c.loop-person.invariant.side
          (all_met rows (λ q. get nat_eq c.loop-person.met q ≡ Some c.args.mark) c.args.last.now c.loop-person.person-index c.loop-person-test.false c.loop-person.invariant.friends);
      others = c.loop-person.invariant.others;
    }
