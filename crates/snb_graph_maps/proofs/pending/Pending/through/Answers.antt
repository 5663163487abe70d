use Rattle.std.proofs.Common.{◌∙◌}
use Rattle.std.specs.Option.{option_copied}
use Rattle.std.specs.Ordering.{is_le, is_lt}
use Rattle.snb_graph_maps.proofs.PendingLemmas.{ahead_within}
use Rattle.snb_graph_maps.proofs.pending.Pending.through.Goals as goal

pub returns : goal.returns
returns g c = rw (← c.self.view_is) (c.over.ensures ∙ ahead_within g.K.Ord.cmp g.met.K.Ord.total g.met.K.Apart.same_key c.self.inside.map.entries (option_copied c.since.result) (option_copied c.least_in-end.result) (λ k. is_le (g.K.Ord.cmp c.args.from.now k)) (λ k. is_lt (g.K.Ord.cmp c.args.last.now k)) c.since.ensures.from c.least_in-end.ensures.from)
