use Rattle.std.proofs.Common.{ℕ, ◌≤◌, arith}
use Rattle.snb_read_model.specs.Distance.{FriendPath}
use Rattle.snb_reach.proofs.FewLemmas.{add_all, add_stays}
use Rattle.snb_reach.proofs.few.visit.Goals as goal

pub returns-then-one-level-clause-ids : goal.returns-then-one-level-clause-ids
returns-then-one-level-clause-ids c =
    add_all c.args.ids.now.items c.add.new.ids.items c.args.one.0 (λ q. (n : ℕ) × FriendPath c.args.graph.now c.args.start q n × (n ≤ c.args.level)) c.in_ok-add.ensures.ids c.requires.ids (c.args.one.1, c.requires.reached, omega (arith, c.requires.below))

pub add_friends-requires-clause-ids : goal.add_friends-requires-clause-ids
add_friends-requires-clause-ids c =
    add_all c.args.ids.now.items c.add.new.ids.items c.args.one.0 (λ q. (n : ℕ) × FriendPath c.args.graph.now c.args.start q n × (n ≤ c.args.level)) c.in_ok-add.ensures.ids c.requires.ids (c.args.one.1, c.requires.reached, omega (arith, c.requires.below))

pub returns-clause-stays : goal.returns-clause-stays
returns-clause-stays c = λ q h. c.in_ok-add_friends.ensures.stays q ((add_stays c.args.ids.now.items c.add.new.ids.items c.args.one.0 c.in_ok-add.ensures.ids).0 q h)

pub returns-clause-own : goal.returns-clause-own
returns-clause-own c = c.in_ok-add_friends.ensures.stays c.args.one.0 (add_stays c.args.ids.now.items c.add.new.ids.items c.args.one.0 c.in_ok-add.ensures.ids).1
