use Rattle.std.proofs.Common.{◌≡◌, ℕ, ◌+◌, ◌<◌, length, get_or, nat_eq, Some, true}
use Rattle.std.specs.HashMap.{get, hash_map_len}
use Rattle.snb_graph_model.specs.Around.{is_friend}
use Rattle.snb_reach.specs.Sides.{IsSide, KeepsMark, SameOthers}
use Rattle.snb_reach.proofs.sides.grow.Given as goal

abbrev pub invariant-loop-person : goal.invariant-loop-person
invariant-loop-person l = record {
  side : IsSide l.graph l.start l.mark l.level l.level (get nat_eq l.met) l.next.items;
  keeps : KeepsMark l.mark (get nat_eq l.fn.met) (get nat_eq l.met);
  others : SameOthers l.mark (get nat_eq l.fn.met) (get nat_eq l.met);
  friends : (k : ℕ) (d : ℕ) → k < l.person-index → (q : ℕ) → is_friend l.graph (get_or l.last k d) q ≡ true → get nat_eq l.met q ≡ Some l.mark;
  len : hash_map_len l.met ≡ hash_map_len l.fn.met + length l.next.items;
}
