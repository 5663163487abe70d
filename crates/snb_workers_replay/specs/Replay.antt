-- What a graph is after a history of a plan: the inserts that are finished, in the order of their
-- Finish events.
use Rattle.std.specs.Prelude.{ℕ, List, Option, Some, None, filter_map, slice_get, take}
use Rattle.std.specs.List.{flat_map}
use Rattle.snb_history.specs.declared.event.Event.{Event}
use Rattle.snb_history.specs.declared.event.Event.TheVariants.{Start, Finish, Halt}
use Rattle.snb_schema.specs.declared.op.Op.{Op}
use Rattle.snb_schema.specs.declared.row.Row.{Row}
use Rattle.snb_schema.specs.Inserts.{rows_of}
use Rattle.snb_graph_model.specs.Graphs.{HasGained}
use Rattle.snb_plan.specs.Plans.{AskWork, InsertWork, Operation, Plan, Work}

-- what an operation inserts, where there is one and it is an update
abbrev pub insert_in : Option Operation → Option Op
insert_in None = None
insert_in (Some o) = insert_of o.work
  where
    insert_of : Work → Option Op
    insert_of (InsertWork line) = Some line.op
    insert_of (AskWork query) = None

-- what the operation of a number inserts
abbrev pub insert_at : Plan → ℕ → Option Op
insert_at plan k = insert_in (slice_get plan.operations k)

-- the insert that an event finishes, if it finishes one
abbrev pub finished_insert : Plan → Event → Option Op
finished_insert plan (Start op worker at) = None
finished_insert plan (Finish op worker at front) = insert_at plan op
finished_insert plan (Halt worker) = None

-- the inserts that a history has finished, in the order of their Finish events
abbrev pub inserts_in : Plan → List Event → List Op
inserts_in plan h = filter_map (finished_insert plan) h

-- and their rows
abbrev pub rows_in : Plan → List Event → List Row
rows_in plan h = flat_map rows_of (inserts_in plan h)

-- the inserts of a plan, in the order of their operations
abbrev pub all_inserts : Plan → List Op
all_inserts plan = filter_map (λ (o : Operation). insert_in (Some o)) plan.operations

-- and their rows
abbrev pub all_rows : Plan → List Row
all_rows plan = flat_map rows_of (all_inserts plan)

-- the inserts of smaller number than this, in the order of their operations
abbrev pub inserts_before : Plan → ℕ → List Op
inserts_before plan k = filter_map (λ (o : Operation). insert_in (Some o)) (take k plan.operations)

-- and their rows
abbrev pub rows_before : Plan → ℕ → List Row
rows_before plan k = flat_map rows_of (inserts_before plan k)

-- the graph has the rows of the base, and those of each insert that is finished
abbrev pub IsAfter : List Row → Plan → List Event → List Row → Type 0
IsAfter base plan h graph = HasGained base (rows_in plan h) graph

-- the graph has the rows of the base, and those of each insert of the plan
abbrev pub IsFinal : List Row → Plan → List Row → Type 0
IsFinal base plan graph = HasGained base (all_rows plan) graph

-- the graph has the rows of the base, and those of each insert of smaller number than this
abbrev pub IsGraphBefore : List Row → Plan → ℕ → List Row → Type 0
IsGraphBefore base plan k graph = HasGained base (rows_before plan k) graph
