use Rattle.std.proofs.Common.{not, subst, sym, ◌∙◌}
use Rattle.std.specs.List.{zip}
use Rattle.std.specs.List.Sorted.{IsPartitionedBy}
use Rattle.std.specs.Ordering.{is_le, is_lt}
use Rattle.std.proofs.lemmas.List.{take_rest}
use Rattle.snb_graph_maps.proofs.SearchLemmas.{not_below, same_filter}
use Rattle.snb_graph_maps.proofs.ZipLemmas.{keys_below, keys_rise, left_beside}
use Rattle.snb_graph_maps.proofs.sorted.Sorted.since.Goals as goal

pub start-at-requires : goal.start-at-requires
start-at-requires g c =
    let ks = c.self.inside.keys.items in
    subst (λ xs. IsPartitionedBy (λ k. is_lt (g.K.Ord.cmp k c.args.key.now)) xs) (sym c.as_slice-keys.ensures.value) (keys_below g.K.Ord.cmp g.met.K.Ord.total g.met.K.Apart.same_key ks c.args.key.now (keys_rise g.K.Ord.cmp g.met.K.Ord.total g.met.K.Apart.same_key ks c.self.inside.values.items c.self.invariant (rw (← c.self.view_is) at c.requires)))

pub returns : goal.returns
returns g c =
    let ks = c.self.inside.keys.items in
    let vs = c.self.inside.values.items in
    let at = c.start-at.result in
    let parts = rw c.as_slice-keys.ensures.value at c.start-at.ensures in
    rw (c.over.ensures, take_rest c.as_slice-keys.result.now at, take_rest c.as_slice-values.result.now at, c.as_slice-keys.ensures.value, c.as_slice-values.ensures.value, ← c.self.view_is)
    (left_beside (λ k. is_lt (g.K.Ord.cmp k c.args.key.now)) ks vs at c.self.invariant parts.low parts.high parts.bound
    ∙ same_filter (λ e. not (is_lt (g.K.Ord.cmp e.0 c.args.key.now))) (λ e. is_le (g.K.Ord.cmp c.args.key.now e.0)) (λ e. sym (not_below g.K.Ord.cmp g.met.K.Ord.total c.args.key.now e.0)) (zip ks vs))
