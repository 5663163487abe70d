use Rattle.std.proofs.Common.{◌≡◌, ℕ, suc, ◌-◌, ◌≤◌, arith, sym, subst}
use Rattle.std.specs.List.{Contains}
use Rattle.std.specs.List.Sorted.{IsPermutation}
use Rattle.snb_read_model.specs.Distance.{FriendPath}
use Rattle.snb_graph_model.specs.Around.{friends}
use Rattle.snb_graph_links.specs.Pairs.{rest}
use Rattle.snb_reach.proofs.FewLemmas.{add_all, add_stays}
use Rattle.snb_reach.proofs.LookLemmas.{all_looked, looked, looks}
use Rattle.snb_reach.proofs.few.add_friends.Goals as goal
use Rattle.snb_base.proofs.Laws.{contains_here}

pub loop-friend-init : goal.loop-friend-init
loop-friend-init c = record {
  noted = c.requires.noted;
  ids = c.requires.ids;
  stays = λ q h. h;
  looking = looks c.args.graph.now c.args.person _ _ c.requires.held
      (subst (λ w. IsPermutation (friends c.args.graph.now c.args.person) (rest w)) (sym c.into_iter-friend-iterator.ensures.into_iter_gives) c.friends-friend-items.ensures.same);
}

pub loop-friend-preserved : goal.loop-friend-preserved
loop-friend-preserved c =
    let g = c.args.graph.now in
    let person = c.args.person in
    let level = c.args.level in
    let friend = c.in-Some.friend in
    let ids = c.loop-friend.ids.items in
    let ids' = c.add.new.ids.items in
    let up : suc (level - 1) ≡ level = omega (arith, c.requires.above) in
    let (knows, known) = c.loop-friend.invariant.looking.friends friend c.in-Some.field-0-1 (rw c.in-Some.ensures.steps (contains_here (friend, c.in-Some.field-0-1) (rest c.next.new.self))) in
    let walk : FriendPath g c.args.start friend level = rw up at (FriendPath.step c.args.start person friend (level - 1) c.requires.reached knows known) in
    let (stays, here) = add_stays ids ids' friend c.in_ok-add.ensures.ids in
    record {
      noted = c.in_ok-add.ensures.noted;
      ids = add_all ids ids' friend (λ q. (n : ℕ) × FriendPath g c.args.start q n × (n ≤ level)) c.in_ok-add.ensures.ids c.loop-friend.invariant.ids (level, walk, omega arith);
      stays = λ q h. stays q (c.loop-friend.invariant.stays q h);
      looking = looked g person _ _ _ _ (Contains ids) (Contains ids') c.in-Some.ensures.steps stays here c.loop-friend.invariant.looking;
    }

pub returns-clause-friends : goal.returns-clause-friends
returns-clause-friends c = all_looked c.args.graph.now c.args.person (rest c.loop-friend.friend-iterator) (Contains c.loop-friend.ids.items) c.in-None.ensures.steps.0 c.loop-friend.invariant.looking
