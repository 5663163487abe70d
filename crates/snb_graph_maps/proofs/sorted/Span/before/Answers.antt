use Rattle.std.proofs.Common.{sym, ◌∙◌, not}
use Rattle.std.specs.Ordering.{is_le, is_lt}
use Rattle.std.specs.List.{zip}
use Rattle.snb_graph_maps.proofs.SearchLemmas.{below, same_filter}
use Rattle.snb_graph_maps.proofs.ZipLemmas.{keys_rise, keys_below, taken_beside}
use Rattle.snb_graph_maps.proofs.sorted.Span.before.Goals as goal

pub end-at-requires : goal.end-at-requires
end-at-requires g c =
    let ks = c.self.inside.keys.now in
    keys_below g.K.Ord.cmp g.met.K.Ord.total g.met.K.Apart.same_key ks c.args.key.now (keys_rise g.K.Ord.cmp g.met.K.Ord.total g.met.K.Apart.same_key ks c.self.inside.values.now c.self.invariant (rw (← c.self.view_is) at c.requires))

pub returns : goal.returns
returns g c =
    let ks = c.self.inside.keys.now in
    let vs = c.self.inside.values.now in
    let parts = c.end-at.ensures in
    rw (← c.self.view_is) (
    taken_beside (λ k. is_lt (g.K.Ord.cmp k c.args.key.now)) ks vs c.end-at.result c.self.invariant parts.low parts.high parts.bound
    ∙ same_filter (λ e. is_lt (g.K.Ord.cmp e.0 c.args.key.now)) (λ e. not (is_le (g.K.Ord.cmp c.args.key.now e.0))) (λ e. sym (below g.K.Ord.cmp g.met.K.Ord.total c.args.key.now e.0)) (zip ks vs))
