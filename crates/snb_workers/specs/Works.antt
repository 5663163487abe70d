-- What one of several workers does, who share a board, each with a replica of its own.
use Rattle.std.specs.Prelude.{◌≡◌, ◌≢◌, ◌⊎◌, ◌≤◌, ◌++◌, ◌∷◌, [], ℕ, List, length, drop, All, None, true, false}
use mathlib.Core.List.{IsPrefix}
use Rattle.snb_history.specs.declared.event.Event.{Event}
use Rattle.snb_history.specs.declared.event.Event.TheVariants.{Halt}
use Rattle.snb_schema.specs.declared.row.Row.{Row}
use Rattle.snb_history.specs.History.{halted, hand, has_moment, is_by, moment, started}
use Rattle.snb_history.specs.Schedule.{Schedule, IsOperation}
use Rattle.snb_graph_model.specs.Graphs.{HoldsKey}
use Rattle.snb_book.specs.Kept.{moment_after}
use Rattle.snb_board.specs.Boards.{Sitting, mine}
use Rattle.snb_plan.specs.Closed.{IsClosed}
use Rattle.snb_plan.specs.Plans.{Plan, updates_in}
use Rattle.snb_answered.specs.declared.done.Answered.{Answered}
use Rattle.snb_base.specs.Moments.{Moments}
use Rattle.snb_replica.specs.Replicas.{StandsFor, Taken}
use Rattle.snb_replica.specs.Runs.{AreReplies}

-- over this base, over which the plan is closed, the replica stands for a beginning of what was
-- seen
pub record IsFollowing (base : List Row) (plan : Plan) (seen : List Event) (r : Taken)
    : Type 0 where
  pub closed : IsClosed (HoldsKey base) (updates_in plan)
  pub taken : List Event
  pub begins : IsPrefix taken seen
  pub stands : StandsFor base plan taken r

-- the seat's worker has nothing in hand and hasn't halted
pub record IsFree (s : Sitting) : Type 0 where
  pub empty : hand (mine s) s.worker ≡ None
  pub running : halted (mine s) s.worker ≡ false

-- it is the same seat, which has seen what it had seen, and perhaps more
pub record IsLater (s t : Sitting) : Type 0 where
  pub site : t.site ≡ s.site
  pub worker : t.worker ≡ s.worker
  pub seen : IsPrefix s.seen t.seen
  pub mine : IsPrefix (mine s) (mine t)

-- the events of its worker that the seat has beside those that it had
abbrev pub added : Sitting → Sitting → List Event
added s t = drop (length (mine s)) (mine t)

-- an event after others is at a moment that the clock can answer, or at the last before it where
-- that is later, and at MAX_AT at most
pub record IsTimely (moments : Moments) (g : List Event) (e : Event) : Type 0 where
  pub reading : ℕ
  pub tells : moments.tells reading ≡ true
  pub is : moment e ≡ moment_after g reading

-- so is each Start and Finish of the worker after the first n events
abbrev pub AreTimely : Moments → ℕ → ℕ → List Event → Type 0
AreTimely moments worker n h =
    (g rest : List Event) (e : Event) → g ++ e ∷ rest ≡ h → n ≤ length g → is_by worker e ≡ true
    → has_moment e ≡ true → IsTimely moments g e

-- every operation is started, or another worker has halted
abbrev pub NothingIsLeft : Schedule → ℕ → List Event → Type 0
NothingIsLeft s worker h =
    ((k : ℕ) → IsOperation s k → started h k ≡ true)
    ⊎ ((w : ℕ) × (w ≢ worker) × (halted h w ≡ true))

-- what a worker leaves that didn't want for memory: it has nothing in hand, and nothing is left to
-- start. Over each base, its replies are those to the reads that it has finished, each answered at
-- the front of its Finish, up to which the replica has come
pub record HasWorked (plan : Plan) (moments : Moments) (s t : Sitting) (old new : Taken)
    (replies : List Answered) : Type 0 where
  pub free : IsFree t
  pub over : NothingIsLeft t.site.schedule t.worker t.seen
  pub answered : (base : List Row) → IsFollowing base plan s.seen old
      → AreReplies base plan moments (added s t) t.seen replies
  pub fronts : All (λ a. a.front ≤ new.front) replies

-- the worker's last event is its Halt
abbrev pub HasStopped : Sitting → Type 0
HasStopped t = (before : List Event) × (mine t ≡ before ++ Halt t.worker ∷ [])
