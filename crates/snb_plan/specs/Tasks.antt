-- What an operation of a plan does.
use Rattle.std.specs.Prelude.{◌≡◌, ℕ, Option, Some, Result, Ok, Err, slice_get}
use Rattle.snb_schema.specs.declared.refusal.Refusal.{Refusal}
use Rattle.snb_schema.specs.declared.fault.PlanFault.{PlanFault}
use Rattle.snb_schema.specs.declared.fault.PlanFault.TheVariants.{Refused, Memory}
use Rattle.snb_plan.specs.declared.plan.Source.{Source}
use Rattle.snb_plan.specs.declared.plan.Task.{Task}
use Rattle.snb_plan.specs.declared.plan.Task.TheVariants as tasks
use Rattle.snb_plan.specs.Plans.{AskWork, InsertWork, Operation, Plan, Work}

-- a task does what the operation of this number does
abbrev pub work_of : Task → Work
work_of (tasks.Insert line) = InsertWork line.now
work_of (tasks.Ask query) = AskWork query.now

abbrev pub IsTask : Plan → ℕ → Task → Type 0
IsTask plan k task =
    (o : Operation) × (slice_get plan.operations k ≡ Some o) × (o.work ≡ work_of task)

-- the line that the operation of this number comes from
abbrev pub IsSource : Plan → ℕ → Option Source → Type 0
IsSource plan k source =
    (o : Operation) × (slice_get plan.operations k ≡ Some o) × (o.source ≡ source)

-- a fact of the refusal, where there is one
abbrev pub OnRefused : {A : Type 0} → Result A PlanFault → (Refusal → Type 0) → Type 0
OnRefused (Ok a) P = Unit {0}
OnRefused (Err (Refused r)) P = P r
OnRefused (Err Memory) P = Unit {0}
