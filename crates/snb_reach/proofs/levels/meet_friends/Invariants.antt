use Rattle.std.proofs.Common.{IsSome, nat_eq}
use Rattle.std.specs.HashMap.{get}
use Rattle.snb_graph_links.specs.Pairs.{rest}
use Rattle.snb_reach.proofs.LookLemmas.{IsLooking}
use Rattle.snb_reach.specs.Levels.{IsGrowing, StaysMet}
use Rattle.snb_reach.proofs.levels.meet_friends.Given as goal

abbrev pub invariant-loop-friend : goal.invariant-loop-friend
invariant-loop-friend l = record {
  growing : IsGrowing l.graph l.start l.level (get nat_eq l.met) l.next.items;
  stays : StaysMet (get nat_eq l.fn.met) (get nat_eq l.met);
  looking : IsLooking l.graph l.person (rest l.friend-iterator) (λ q. IsSome (get nat_eq l.met q));
}
