use Rattle.std.proofs.Common.{rules, sym, ◌∙◌, ap, arith}
use Rattle.std.proofs.lemmas.List.{get_or_default}
use Rattle.std.proofs.lemmas.List.Sorted.{IsPartitionPoint-from_clause}
use Rattle.snb_graph_maps.specs.Parted.{falls}
use Rattle.snb_graph_maps.proofs.SearchLemmas.{parts_from}
use Rattle.snb_graph_maps.proofs.search.end.Goals as goal

-- no key is left
pub returns-then-at-keys : goal.returns-then-at-keys
returns-then-at-keys g c = let past = c.if-at-keys.true in record { bound = omega arith; low = λ j d l h. c.loop-at.invariant.low j d l (omega arith); high = λ j d l h. absurd (omega arith) }

-- a key that doesn't pass
pub returns-then-not-falls : goal.returns-then-not-falls
returns-then-not-falls g c =
    parts_from (λ k. falls c.args.also (g.K.Ord.cmp k c.args.key.now)) c.args.keys.now c.requires c.loop-at.at c.loop-at.invariant.bound c.loop-at.invariant.low
    (λ d l. ap (λ k. falls c.args.also (g.K.Ord.cmp k c.args.key.now)) (get_or_default c.args.keys.now c.loop-at.at d c.index-keys-at.result l ∙ sym c.index-keys-at.is) ∙ sym c.if-not-falls.ensures)

pub returns : goal.returns
returns g c =
    let point = IsPartitionPoint-from_clause (λ k. falls c.args.also (g.K.Ord.cmp k c.args.key.now)) c.args.keys.now c.partition_point.result c.partition_point.ensures.partitioned c.requires (λ a r f called. search rules) in
    record { bound = c.partition_point.ensures.bound; low = point.0; high = point.1 }
