use Rattle.std.proofs.Common.{◌≡◌, ◌≤◌, ◌<◌, ◌+◌, ℕ, false, get_or}
use Rattle.std.specs.Ordering.{is_lt}
use Rattle.snb_graph_maps.proofs.pending.is_sorted.Given as goal

-- no key before this one is below the one before it
abbrev pub invariant-loop-i : goal.invariant-loop-i
invariant-loop-i g l = (k : ℕ) (d : g.row.K.Denot) → 0 ≤ k → k + 1 < l.i → is_lt (g.K.Ord.cmp (get_or l.keys (k + 1) d) (get_or l.keys k d)) ≡ false
