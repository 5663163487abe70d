-- What the operations of a plan are.
use Rattle.std.specs.Prelude.{◌==◌, Option, Some, None, List, map, if◌then◌else◌}
use Rattle.snb_history.specs.declared.event.Event.{Event}
use Rattle.snb_schema.specs.declared.query.Query.{Query}
use Rattle.snb_schema.specs.InsertLines.{kind_of}
use Rattle.snb_schema.specs.Queries.{number_of_query}
use Rattle.snb_schema.specs.ReadKinds.{read_kind_of}
use Rattle.snb_plan.specs.Plans.{Plan, Operation, Work, schedule_of}
use Rattle.snb_plan.specs.Plans as plans
use Rattle.snb_summary.specs.declared.kind.OpKind.{OpKind}
use Rattle.snb_summary.specs.declared.kind.OpKind.TheVariants as kinds
use Rattle.snb_summary.specs.Latencies.{MeasuredRun, moments_of}

-- the kind of a read: a plan asks complex reads alone, and a short one has none
abbrev pub query_kind : Query → Option OpKind
query_kind query =
    if number_of_query query == 0 then None else Some (kinds.Read (read_kind_of query))

-- the kind of what an operation does
abbrev pub work_kind : Work → Option OpKind
work_kind (plans.InsertWork line) = Some (kinds.Insert (kind_of line.op))
work_kind (plans.AskWork query) = query_kind query

-- the kinds of a plan's operations, in the order of their numbers
abbrev pub kinds_in : Plan → List (Option OpKind)
kinds_in plan = map (λ (o : Operation). work_kind o.work) plan.operations

-- a history of a plan
abbrev pub run_of : Plan → List Event → MeasuredRun
run_of plan h =
    record { kinds = kinds_in plan; schedule = schedule_of plan; moments = moments_of h }
