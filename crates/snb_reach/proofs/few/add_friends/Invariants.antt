use Rattle.std.proofs.Common.{ℕ}
use Rattle.std.specs.List.{All, Contains}
use Rattle.snb_graph_links.specs.Pairs.{rest}
use Rattle.snb_reach.proofs.LookLemmas.{IsLooking}
use Rattle.snb_reach.specs.Few.{AreReached}
use Rattle.snb_reach.proofs.few.add_friends.Given as goal

abbrev pub invariant-loop-friend : goal.invariant-loop-friend
invariant-loop-friend l = record {
  noted : All (Contains l.ids.items) l.noted.items;
  ids : AreReached l.graph l.start l.level l.ids.items;
  stays : (q : ℕ) → Contains l.fn.ids.items q → Contains l.ids.items q;
  looking : IsLooking l.graph l.person (rest l.friend-iterator) (Contains l.ids.items);
}
