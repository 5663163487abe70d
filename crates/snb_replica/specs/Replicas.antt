-- What a replica of a graph stands for.
use Rattle.std.specs.Prelude.{◌≡◌, ◌⊎◌, ℕ, ◌<◌, ◌≤◌, ◌^◌, List, ◌++◌, length}
use Rattle.snb_history.specs.declared.event.Event.{Event}
use Rattle.snb_history.specs.declared.event.Event.TheVariants.{Start, Finish, Halt}
use Rattle.snb_schema.specs.declared.limits.TheConstants.{MAX_WORKERS}
use Rattle.snb_schema.specs.declared.row.Row.{Row}
use Rattle.snb_history.specs.Rules.{IsLegal}
use Rattle.snb_graph_model.specs.Graphs.{HoldsKey}
use Rattle.snb_plan.specs.Closed.{IsClosed}
use Rattle.snb_plan.specs.Plans.{Plan, schedule_of, updates_in}
use Rattle.snb_workers_replay.specs.Replay.{IsAfter}

-- a graph, and how many events it has taken
pub record Taken : Type 0 where
  pub graph : List Row
  pub front : ℕ

-- the graph is the base with the rows of each insert that has finished in a history of the plan,
-- and the front is the history's length
pub record StandsFor (base : List Row) (plan : Plan) (h : List Event) (r : Taken) : Type 0 where
  pub after : IsAfter base plan h r.graph
  pub front : r.front ≡ length h

-- the workers are at most MAX_WORKERS, or the history is shorter than 2 ^ 32, which it is where
-- they are and it is legal
abbrev pub IsCountable : ℕ → List Event → Type 0
IsCountable workers h = (workers ≤ MAX_WORKERS) ⊎ (length h < 2 ^ 32)

-- a replica stands for a history of the plan, which is closed over the base, and with these events
-- it is a legal one that can be counted
pub record MayTake (plan : Plan) (events : List Event) (r : Taken) (base : List Row)
    (g : List Event) : Type 0 where
  pub stands : StandsFor base plan g r
  pub closed : IsClosed (HoldsKey base) (updates_in plan)
  pub workers : ℕ
  pub few : IsCountable workers (g ++ events)
  pub legal : IsLegal (schedule_of plan) workers (g ++ events)

-- with the events it stands for the history and these
abbrev pub HasTaken : Plan → List Event → Taken → Taken → Type 0
HasTaken plan events old new =
    (base : List Row) (g : List Event) → MayTake plan events old base g
    → StandsFor base plan (g ++ events) new

-- it stands for the history and the first of the events
abbrev pub HasTakenSome : Plan → List Event → Taken → Taken → Type 0
HasTakenSome plan events old new =
    (base : List Row) (g : List Event) → MayTake plan events old base g
    → (front : List Event) × (rest : List Event) × (front ++ rest ≡ events)
    × StandsFor base plan (g ++ front) new

-- P of the operation that an event finishes, if it finishes one
abbrev pub IfFinish : Event → (ℕ → Type 0) → Type 0
IfFinish (Start op worker at) P = Unit {0}
IfFinish (Finish op worker at front) P = P op
IfFinish (Halt worker) P = Unit {0}
