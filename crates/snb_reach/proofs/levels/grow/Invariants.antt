use Rattle.std.proofs.Common.{◌≡◌, ℕ, ◌<◌, IsSome, get_or, nat_eq, true}
use Rattle.std.specs.HashMap.{get}
use Rattle.snb_graph_model.specs.Around.{is_friend}
use Rattle.snb_reach.specs.Levels.{IsGrowing}
use Rattle.snb_reach.proofs.levels.grow.Given as goal

abbrev pub invariant-loop-person : goal.invariant-loop-person
invariant-loop-person l = record {
  growing : IsGrowing l.graph l.start l.level (get nat_eq l.met) l.next.items;
  friends : (k : ℕ) (d : ℕ) → k < l.person-index → (q : ℕ) → is_friend l.graph (get_or l.last k d) q ≡ true → IsSome (get nat_eq l.met q);
}
