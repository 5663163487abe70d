use Rattle.std.proofs.Common.{◌∙◌, ltb, rules}
use Rattle.std.proofs.lemmas.List.Sorted.{IsPartitionPoint-from_clause}
use Rattle.snb_graph_links.proofs.PairLemmas.{partitioned, insert_at}
use Rattle.snb_graph_links.proofs.adjacency_map.put_pair.Goals as goal

pub returns-clause-ok : goal.returns-clause-ok
returns-clause-ok c =
    let rises = rw (← c.deref.ensures.value) at c.requires.rises in
    let point = IsPartitionPoint-from_clause (λ p. ltb p.0 c.args.id) c.deref.result.now c.partition_point-at.result c.partition_point-at.ensures.partitioned (partitioned _ c.args.id rises) (λ a r f called. search rules) in
    let here = rw c.deref.ensures.value at point in
    let bound = rw c.deref.ensures.value at c.partition_point-at.ensures.bound in
    c.in_ok-insert.ensures.items ∙ insert_at c.args.pairs.now.items c.partition_point-at.result c.args.id c.args.date here.0 here.1 c.requires.absent bound
