use Rattle.std.proofs.Common.{◌≡◌, suc, ◌-◌, Some, arith, nat_eq, sym, subst}
use Rattle.std.specs.HashMap.{get}
use Rattle.std.specs.List.Sorted.{IsPermutation}
use Rattle.snb_read_model.specs.Distance.{FriendPath}
use Rattle.snb_graph_model.specs.Around.{friends}
use Rattle.snb_graph_links.specs.Pairs.{rest}
use Rattle.snb_reach.proofs.LookLemmas.{all_looked, looked, looks}
use Rattle.snb_reach.proofs.SideLemmas.{marked, met_other}
use Rattle.snb_reach.specs.Sides.{HasMarked}
use Rattle.snb_reach.proofs.sides.meet_friends.Goals as goal
use Rattle.snb_base.proofs.Laws.{contains_here}

pub loop-friend-init : goal.loop-friend-init
loop-friend-init c = record {
  side = c.requires.side;
  keeps = λ q h. h;
  others = λ q. (λ h. h, λ h. h);
  looking = looks c.args.graph.now c.args.person _ _ c.requires.held
      (subst (λ w. IsPermutation (friends c.args.graph.now c.args.person) (rest w)) (sym c.into_iter-friend-iterator.ensures.into_iter_gives) c.friends-friend-items.ensures.same);
  len = omega arith;
}

pub loop-friend-preserved : goal.loop-friend-preserved
loop-friend-preserved c =
    let g = c.args.graph.now in
    let up : c.args.level ≡ suc (c.args.level - 1) = omega (arith, c.requires.above) in
    let (knows, known) = c.loop-friend.invariant.looking.friends c.in-Some.friend c.in-Some.field-0-1 (rw c.in-Some.ensures.steps (contains_here (c.in-Some.friend, c.in-Some.field-0-1) (rest c.next.new.self))) in
    let has = subst (λ b. HasMarked c.in-Some.friend c.args.mark (get nat_eq c.loop-friend.met) c.loop-friend.next.items b (get nat_eq c.meet.new.met) c.meet.new.next.items) c.if-branch.false c.in_ok-meet.ensures.met in
    let (side, keeps, others, here) = marked g c.args.start c.args.mark c.args.level _ _ c.loop-friend.invariant.side c.args.person _ (c.args.level - 1) _ _ up c.requires.reached knows known has in
    record {
      side = side;
      keeps = λ q h. keeps q (c.loop-friend.invariant.keeps q h);
      others = λ q. (λ h. (c.loop-friend.invariant.others q).0 ((others q).0 h), λ h. (others q).1 ((c.loop-friend.invariant.others q).1 h));
      looking = looked g c.args.person _ _ _ _ (λ q. get nat_eq c.loop-friend.met q ≡ Some c.args.mark) (λ q. get nat_eq c.meet.new.met q ≡ Some c.args.mark) c.in-Some.ensures.steps keeps here c.loop-friend.invariant.looking;
      len = omega (arith, c.in_ok-meet.ensures.len, c.loop-friend.invariant.len);
    }

pub returns-then-branch-clause-met : goal.returns-then-branch-clause-met
returns-then-branch-clause-met c =
    let up : c.args.level ≡ suc (c.args.level - 1) = omega (arith, c.requires.above) in
    let (knows, known) = c.loop-friend.invariant.looking.friends c.in-Some.friend c.in-Some.field-0-1 (rw c.in-Some.ensures.steps (contains_here (c.in-Some.friend, c.in-Some.field-0-1) (rest c.next.new.self))) in
    record {
      person = c.in-Some.friend;
      walk = rw up (FriendPath.step c.args.start c.args.person c.in-Some.friend (c.args.level - 1) c.requires.reached knows known);
      other = (c.loop-friend.invariant.others c.in-Some.friend).0 (met_other c.in-Some.friend c.args.mark (get nat_eq c.loop-friend.met) (get nat_eq c.meet.new.met) c.loop-friend.next.items c.meet.new.next.items c.in_ok-meet.field-0 c.if-branch.true c.in_ok-meet.ensures.met);
    }

pub returns-clause-met : goal.returns-clause-met
returns-clause-met c = record {
  side = c.loop-friend.invariant.side;
  keeps = c.loop-friend.invariant.keeps;
  others = c.loop-friend.invariant.others;
  friends = all_looked c.args.graph.now c.args.person (rest c.loop-friend.friend-iterator) (λ q. get nat_eq c.loop-friend.met q ≡ Some c.args.mark) c.in-None.ensures.steps.0 c.loop-friend.invariant.looking;
}
