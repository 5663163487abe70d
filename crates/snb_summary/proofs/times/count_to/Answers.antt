use Rattle.std.proofs.Common.{nat_le, rules}
use Rattle.std.proofs.lemmas.List.Sorted.{IsPartitionPoint-from_clause, IsPartitionedBy-leb}
use Rattle.snb_history.specs.declared.step.Step.{Step}
use Rattle.snb_summary.proofs.Heeding.{count_told}
use Rattle.snb_summary.proofs.times.count_to.Goals as goal

pub returns-clause-each : goal.returns-clause-each
returns-clause-each c =
    count_told c.args.steps.now c.args.t c.partition_point.result
    (IsPartitionPoint-from_clause (λ (x : Step). nat_le x.t c.args.t) c.args.steps.now c.partition_point.result c.partition_point.ensures.partitioned
    (IsPartitionedBy-leb (λ (x : Step). x.t) c.args.steps.now c.args.t c.requires) (λ a r f called. search rules))
