-- The instances of the queries so far are there.
use Rattle.std.proofs.Common.{◌≡◌, take}
use Rattle.std.specs.List.{flat_map}
use Rattle.snb_schema.specs.Queries.{complex_queries}
use Rattle.snb_plan.specs.Instances.{instances_of}
use Rattle.snb_plan.proofs.instances.all_instances.Given as goal

abbrev pub invariant-loop-query : goal.invariant-loop-query
invariant-loop-query l = l.instances.items ≡ flat_map (instances_of l.frequencies l.count) (take l.query-index complex_queries)
