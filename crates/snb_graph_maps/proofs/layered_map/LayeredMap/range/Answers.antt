use Rattle.std.proofs.Common.{◌∙◌}
use Rattle.std.specs.Ordering.{is_le}
use Rattle.snb_graph_maps.specs.Merged.{entries_of, is_before_end}
use Rattle.snb_graph_maps.proofs.PartLemmas.{few_of, ranges_before, rises-filter}
use Rattle.snb_graph_maps.proofs.layered_map.LayeredMap.range.Goals as goal

pub before-frozen-requires : goal.before-frozen-requires
before-frozen-requires g c = rw (c.since.ensures, ← c.self.view_is) (rises-filter g.K.Ord.cmp g.met.K.Ord.total g.met.K.Apart.same_key (λ k. is_le (g.K.Ord.cmp c.args.from k)) (entries_of c.self.inside.frozen) c.self.invariant.parts.frozen_rises)

pub over-requires : goal.over-requires
over-requires g c = (ranges_before g.K.Ord.cmp g.met.K.Ord.total g.met.K.Apart.same_key c.args.from c.args.end (entries_of c.self.inside.frozen) c.self.inside.added c.before-frozen.result c.since.result c.range-added.result c.self.invariant.parts
    (rw (← c.self.view_is) at c.since.ensures) c.before-frozen.ensures c.range-added.ensures).0

pub returns-clause-within : goal.returns-clause-within
returns-clause-within g c = rw (← c.self.view_is) (c.over.ensures ∙ (ranges_before g.K.Ord.cmp g.met.K.Ord.total g.met.K.Apart.same_key c.args.from c.args.end (entries_of c.self.inside.frozen) c.self.inside.added c.before-frozen.result c.since.result c.range-added.result c.self.invariant.parts
    (rw (← c.self.view_is) at c.since.ensures) c.before-frozen.ensures c.range-added.ensures).1)

pub returns-clause-few : goal.returns-clause-few
returns-clause-few g c = few_of g.K.Ord.cmp g.met.K.Ord.total g.met.K.Apart.same_key (λ e. is_before_end (g.K.Ord.cmp c.args.from e.0) (g.K.Ord.cmp c.args.end e.0)) (entries_of c.self.inside.frozen) c.self.inside.added c.over.result c.self.invariant (c.over.ensures ∙ (ranges_before g.K.Ord.cmp g.met.K.Ord.total g.met.K.Apart.same_key c.args.from c.args.end (entries_of c.self.inside.frozen) c.self.inside.added c.before-frozen.result c.since.result c.range-added.result c.self.invariant.parts
    (rw (← c.self.view_is) at c.since.ensures) c.before-frozen.ensures c.range-added.ensures).1)
