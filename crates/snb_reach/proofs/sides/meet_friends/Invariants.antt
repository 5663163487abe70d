use Rattle.std.proofs.Common.{◌≡◌, ◌+◌, length, nat_eq, Some}
use Rattle.std.specs.HashMap.{get, hash_map_len}
use Rattle.snb_graph_links.specs.Pairs.{rest}
use Rattle.snb_reach.proofs.LookLemmas.{IsLooking}
use Rattle.snb_reach.specs.Sides.{IsSide, KeepsMark, SameOthers}
use Rattle.snb_reach.proofs.sides.meet_friends.Given as goal

abbrev pub invariant-loop-friend : goal.invariant-loop-friend
invariant-loop-friend l = record {
  side : IsSide l.graph l.start l.mark l.level l.level (get nat_eq l.met) l.next.items;
  keeps : KeepsMark l.mark (get nat_eq l.fn.met) (get nat_eq l.met);
  others : SameOthers l.mark (get nat_eq l.fn.met) (get nat_eq l.met);
  looking : IsLooking l.graph l.person (rest l.friend-iterator) (λ q. get nat_eq l.met q ≡ Some l.mark);
  len : hash_map_len l.met + length l.fn.next.items ≡ hash_map_len l.fn.met + length l.next.items;
}
