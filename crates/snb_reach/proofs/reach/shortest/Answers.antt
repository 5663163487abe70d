use Rattle.std.proofs.Common.{inl, inr, refl, arith}
use Rattle.snb_read_model.specs.Distance.{FriendPath}
use Rattle.snb_reach.proofs.WalkLemmas.{walk_start}
use Rattle.snb_reach.proofs.reach.shortest.Goals as goal

pub returns-in_default : goal.returns-in_default
returns-in_default c = inr ((λ n w. let e = c.in_default.ensures.held.1 (walk_start c.args.graph.now c.args.from c.args.to n w) in cc), refl)

pub returns-then-from-to : goal.returns-then-from-to
returns-then-from-to c = inl (0, record { walk = rw (← c.if-from-to.true) (FriendPath.stay c.args.from (c.in-Some.ensures.held.0 refl)); least = λ m w. omega arith }, refl)
