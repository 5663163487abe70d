-- What a run of a plan leaves: its history, the replies to its reads, and the graph.
use Rattle.std.specs.Prelude.{◌≡◌, ℕ, min, List, take, All, AllPairs, Contains, ◌<◌, ◌≤◌, Some, slice_get, true}
use Rattle.snb_base.specs.Moments.{Moments}
use Rattle.snb_history.specs.declared.event.Event.{Event}
use Rattle.snb_history.specs.declared.event.Event.TheVariants.{Start, Finish, Halt}
use Rattle.snb_schema.specs.declared.limits.TheConstants.{MAX_AT}
use Rattle.snb_schema.specs.declared.query.Query.{Query}
use Rattle.snb_schema.specs.declared.row.Row.{Row}
use Rattle.snb_history.specs.Rules.{IsComplete, IsLegal}
use Rattle.snb_graph_model.specs.Soundness.{Sound}
use Rattle.snb_plan.specs.Plans.{AskWork, Operation, Plan, schedule_of}
use Rattle.snb_workers_replay.specs.Replay.{IsAfter, IsFinal}
use Rattle.snb_workers_replay.specs.Waiting.{StaysBelow, WaitsForAll}
use Rattle.snb_replica.specs.ReplyTexts.{IsReplied}
use Rattle.snb_answered.specs.declared.done.Answered.{Answered}

-- an event's moment, if it has one, is this
abbrev pub IsAt : ℕ → Event → Type 0
IsAt moment (Start op worker at) = at ≡ moment
IsAt moment (Finish op worker at front) = at ≡ moment
IsAt moment (Halt worker) = Unit {0}

-- the clock can answer this moment, or a later one where it is MAX_AT
pub record IsOfClock (moments : Moments) (at : ℕ) : Type 0 where
  pub reading : ℕ
  pub tells : moments.tells reading ≡ true
  pub is : at ≡ min reading MAX_AT

-- the moment of an event, if it has one, is one that the clock can answer
abbrev pub IsByClock : Moments → Event → Type 0
IsByClock moments (Start op worker at) = IsOfClock moments at
IsByClock moments (Finish op worker at front) = IsOfClock moments at
IsByClock moments (Halt worker) = Unit {0}

-- each Start and Finish is at a moment that the clock can answer
abbrev pub AreByClock : Moments → List Event → Type 0
AreByClock moments h = All (IsByClock moments) h

-- the clock can answer a moment once these bytes are there that is no later than this one, or is
-- MAX_AT or later
pub record ComesAfter (moments : Moments) (reply : List ℕ) (at : ℕ) : Type 0 where
  pub reading : ℕ
  pub tells : moments.tells_after reply reading ≡ true
  pub by : min reading MAX_AT ≤ at

-- the operation of this number asks the query
abbrev pub Asks : Plan → ℕ → Query → Type 0
Asks plan op query =
    (o : Operation) × (slice_get plan.operations op ≡ Some o) × (o.work ≡ AskWork query)

-- the reply to a read that one of these events finishes: it was there before, and is that to its
-- query on the graph of the base and of what had finished in the front of the history
pub record ReplyIsRight (base : List Row) (plan : Plan) (moments : Moments)
    (finishes h : List Event) (a : Answered) : Type 0 where
  pub worker : ℕ
  pub at : ℕ
  pub finished : Contains finishes (Finish a.op worker at a.front)
  pub later : ComesAfter moments a.text at
  pub query : Query
  pub asks : Asks plan a.op query
  pub graph : List Row
  pub after : IsAfter base plan (take a.front h) graph
  pub replies : IsReplied graph query a.rows a.text

-- these are the replies to the reads that these events finish, one for each, by rising operation,
-- answered on fronts of the history; the events are those of the history, or those of one worker's
-- part of it
pub record AreReplies (base : List Row) (plan : Plan) (moments : Moments) (finishes h : List Event)
    (replies : List Answered) : Type 0 where
  pub rise : AllPairs (λ one other. one.op < other.op) replies
  pub each : All (ReplyIsRight base plan moments finishes h) replies
  pub all :
      (op worker at front : ℕ) (query : Query) → Contains finishes (Finish op worker at front)
      → Asks plan op query →
      (a : Answered) × Contains replies a × (a.op ≡ op)

-- the history of a run of the plan by so many workers, the replies to its reads, and the graph that
-- is left
pub record HasRun (workers : ℕ) (plan : Plan) (moments : Moments) (base : List Row) (h : List Event)
    (replies : List Answered) (graph : List Row) : Type 0 where
  pub legal : IsLegal (schedule_of plan) workers h
  pub complete : IsComplete (schedule_of plan) h
  pub waits : WaitsForAll plan h
  pub below : StaysBelow plan h
  pub by_clock : AreByClock moments h
  pub answered : AreReplies base plan moments h h replies
  pub final : IsFinal base plan graph
  pub sound : Sound graph
