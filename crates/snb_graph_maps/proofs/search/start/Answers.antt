use Rattle.std.proofs.Common.{rules}
use Rattle.std.specs.Ordering.{is_lt}
use Rattle.std.proofs.lemmas.List.Sorted.{IsPartitionPoint-from_clause}
use Rattle.snb_graph_maps.proofs.SearchLemmas.{parts_begin}
use Rattle.snb_graph_maps.proofs.search.start.Goals as goal

pub returns-in-Some : goal.returns-in-Some
returns-in-Some g c = parts_begin (λ k. is_lt (g.K.Ord.cmp k c.args.key.now)) c.args.keys.now c.requires c.in-Some.at c.in-Some.ensures

pub returns-in-None : goal.returns-in-None
returns-in-None g c =
    let point = IsPartitionPoint-from_clause (λ k. is_lt (g.K.Ord.cmp k c.args.key.now)) c.args.keys.now c.partition_point.result c.partition_point.ensures.partitioned c.requires (λ a r f called. search rules) in
    record { bound = c.partition_point.ensures.bound; low = point.0; high = point.1 }
