use Rattle.std.proofs.Common.{◌≡◌, suc, ◌-◌, IsSome, arith, nat_eq, sym, subst}
use Rattle.std.specs.HashMap.{get}
use Rattle.std.specs.List.Sorted.{IsPermutation}
use Rattle.snb_graph_model.specs.Around.{friends}
use Rattle.snb_graph_links.specs.Pairs.{rest}
use Rattle.snb_reach.proofs.LevelLemmas.{growing_met, met_stays}
use Rattle.snb_reach.proofs.LookLemmas.{all_looked, looked, looks}
use Rattle.snb_reach.proofs.levels.meet_friends.Goals as goal
use Rattle.snb_base.proofs.Laws.{contains_here}

pub loop-friend-init : goal.loop-friend-init
loop-friend-init c = record {
  growing = c.requires.growing;
  stays = λ q h. h;
  looking = looks c.args.graph.now c.args.person _ _ c.requires.held
      (subst (λ w. IsPermutation (friends c.args.graph.now c.args.person) (rest w)) (sym c.into_iter-friend-iterator.ensures.into_iter_gives) c.friends-friend-items.ensures.same);
}

pub loop-friend-preserved : goal.loop-friend-preserved
loop-friend-preserved c =
    let g = c.args.graph.now in
    let up : c.args.level ≡ suc (c.args.level - 1) = omega (arith, c.requires.above) in
    let (knows, known) = c.loop-friend.invariant.looking.friends c.in-Some.friend c.in-Some.field-0-1 (rw c.in-Some.ensures.steps (contains_here (c.in-Some.friend, c.in-Some.field-0-1) (rest c.next.new.self))) in
    let (stays, here) = met_stays g c.args.start _ c.args.level _ _ _ _ c.in_ok-meet.ensures in
    record {
      growing = growing_met g c.args.start c.args.level _ _ c.loop-friend.invariant.growing c.args.person _ (c.args.level - 1) _ _ up c.requires.reached knows known c.in_ok-meet.ensures;
      stays = λ q h. stays q (c.loop-friend.invariant.stays q h);
      looking = looked g c.args.person _ _ _ _ (λ q. IsSome (get nat_eq c.loop-friend.met q)) (λ q. IsSome (get nat_eq c.meet.new.met q)) c.in-Some.ensures.steps stays here c.loop-friend.invariant.looking;
    }

pub returns-clause-friends : goal.returns-clause-friends
returns-clause-friends c = all_looked c.args.graph.now c.args.person (rest c.loop-friend.friend-iterator) (λ q. IsSome (get nat_eq c.loop-friend.met q)) c.in-None.ensures.steps.0 c.loop-friend.invariant.looking
