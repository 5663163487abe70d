-- The shares of the queries so far are added up.
use Rattle.std.proofs.Common.{◌≡◌, ◌*◌, ◌^◌, ◌≤◌, take}
use Rattle.std.specs.List.{sum_by}
use Rattle.snb_schema.specs.Frequencies.{frequency_at}
use Rattle.snb_schema.specs.Queries.{complex_queries}
use Rattle.snb_plan.specs.Merging.{share}
use Rattle.snb_plan.proofs.instances.read_count.Given as goal

abbrev pub invariant-loop-query : goal.invariant-loop-query
invariant-loop-query l = record {
  added : l.all ≡ sum_by (λ q. share l.count (frequency_at l.frequencies q)) (take l.query-index complex_queries);
  few : l.all ≤ l.query-index * 2 ^ 32;
}
