use Rattle.std.proofs.Common.{◌≡◌, ◌≤◌, ◌<◌, ◌+◌, ◌-◌, ℕ, get_or, length, take, vec_capacity, vec_len}
use Rattle.snb_graph_maps.specs.Ahead.{AreAt}
use Rattle.snb_graph_maps.specs.Merged.{value_at}
use Rattle.snb_graph_maps.proofs.pending.move_by.Given as goal

-- the values so far, and those under the keys that are left
abbrev pub invariant-loop-key : goal.invariant-loop-key
invariant-loop-key g l = record {
  moved : AreAt g.K.Ord.cmp l.fn.map.entries (take l.key-index l.keys) l.values.items;
  rest : (j : ℕ) (d : g.row.K.Denot) → l.key-index ≤ j → j < length l.keys → value_at g.K.Ord.cmp l.map.entries (get_or l.keys j d) ≡ value_at g.K.Ord.cmp l.fn.map.entries (get_or l.keys j d);
  room : vec_len l.values + (length l.keys - l.key-index) ≤ vec_capacity l.values;
}
