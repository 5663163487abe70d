-- How many rows the reads of a run gave, and what the log of a run tells.
use Rattle.std.specs.Prelude.{◌≡◌, ◌==◌, ℕ, ◌<◌, List, [], ◌∷◌, All, length, map, take, None, Some, slice_get, slice_index_or, if◌then◌else◌}
use Rattle.snb_history.specs.declared.event.Event.{Event}
use Rattle.snb_history.specs.declared.event.Event.TheVariants.{Start, Finish, Halt}
use Rattle.snb_history.specs.declared.logged.Logged.{Logged}
use Rattle.snb_schema.specs.declared.row.Row.{Row}
use Rattle.snb_plan.specs.Plans.{AskWork, InsertWork, Operation, Plan, Work}
use Rattle.snb_read_model.specs.Cells.{ByteCell}
use Rattle.snb_read_model.specs.Replies.{IsReply}
use Rattle.snb_workers_replay.specs.Replay.{IsAfter}
use Rattle.snb_answered.specs.declared.done.Answered.{Answered}

-- how many rows the first answer of a reply has
abbrev pub first_rows : List (List (List ByteCell)) → ℕ
first_rows [] = 0
first_rows (answer ∷ others) = length answer

-- the count of the Finish of an operation with this front: 0 for an insert, and for a read the rows
-- of the first answer of its reply on the graph of the base and of what had finished in that front
-- of the history
abbrev pub IsCountOf : List Row → Plan → List Event → ℕ → Work → ℕ → Type 0
IsCountOf base plan h front (InsertWork line) n = n ≡ 0
IsCountOf base plan h front (AskWork query) n =
    (graph : List Row) × IsAfter base plan (take front h) graph
    × (reply : List (List (List ByteCell))) × IsReply graph query reply × (n ≡ first_rows reply)

-- the count of a Finish in a history
abbrev pub IsCount : List Row → Plan → List Event → Event → ℕ → Type 0
IsCount base plan h (Start op worker at) n = ⊥
IsCount base plan h (Finish op worker at front) n =
    (o : Operation) × (slice_get plan.operations op ≡ Some o) × IsCountOf base plan h front o.work n
IsCount base plan h (Halt worker) n = ⊥

-- there is a count exactly where an event of the history is a Finish, and it is its count
abbrev pub HasRightCount : List Row → Plan → List Event → Logged → Type 0
HasRightCount base plan h logged = OfEvent logged.event
  where
    OfEvent : Event → Type 0
    OfEvent (Start op worker at) = logged.rows ≡ None
    OfEvent (Finish op worker at front) =
        (n : ℕ) × (logged.rows ≡ Some n) × IsCount base plan h (Finish op worker at front) n
    OfEvent (Halt worker) = logged.rows ≡ None

-- what is logged is the history, each Finish with its count
pub record TellsCounts (base : List Row) (plan : Plan) (h : List Event) (logged : List Logged)
    : Type 0 where
  pub events : map (λ l. l.event) logged ≡ h
  pub counts : All (HasRightCount base plan h) logged

-- how many rows the reply to the operation of this number has, and 0 where there is none
abbrev pub rows_by : List Answered → ℕ → ℕ
rows_by [] op = 0
rows_by (a ∷ replies) op = if a.op == op then a.rows else rows_by replies op

-- what the log tells of an event, by the replies
abbrev pub logged_by : List Answered → Event → Logged
logged_by replies (Start op worker at) = record { event = Start op worker at; rows = None }
logged_by replies (Finish op worker at front) =
    record { event = Finish op worker at front; rows = Some (rows_by replies op) }
logged_by replies (Halt worker) = record { event = Halt worker; rows = None }

-- what the log of a run tells
abbrev pub logged_of : List Answered → List Event → List Logged
logged_of replies h = map (logged_by replies) h

-- these are, by operation, the rows of the replies
pub record AreCountsOf (replies : List Answered) (counts : List ℕ) : Type 0 where
  pub each : (k d : ℕ) → k < length counts → slice_index_or counts k d ≡ rows_by replies k
