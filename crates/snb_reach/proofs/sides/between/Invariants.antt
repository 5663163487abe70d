use Rattle.std.proofs.Common.{◌+◌, ◌*◌, ◌-◌, ◌^◌, ◌≤◌, min, length, nat_eq}
use Rattle.std.specs.HashMap.{get, hash_map_len}
use Rattle.snb_reach.proofs.SideLemmas.{IsSearch}
use Rattle.snb_reach.proofs.sides.between.Given as goal

abbrev pub invariant-steps : goal.invariant-steps
invariant-steps l = record {
  search : IsSearch l.graph l.from l.to l.near.start l.near.level l.near.mark l.near.last.items l.far.start l.far.level l.far.mark l.far.last.items (get nat_eq l.met);
  low : l.near.level + l.far.level + min 1 (length l.near.last.items) + min 1 (length l.far.last.items) ≤ hash_map_len l.met;
}

abbrev pub decreases-steps : goal.decreases-steps
decreases-steps l = 2 * (2 ^ 63 - hash_map_len l.met) + min 1 (length l.near.last.items) + min 1 (length l.far.last.items)
