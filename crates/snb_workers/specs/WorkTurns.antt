-- How far a worker at a board has come. Cited by contracts of private functions alone.
use Rattle.std.specs.Prelude.{◌≡◌, ◌≢◌, ◌⊎◌, ◌≤◌, ℕ, List, length, All, Option, None, false}
use Rattle.snb_base.specs.Moments.{Moments}
use Rattle.std.specs.Option.{IfSome}
use Rattle.snb_schema.specs.declared.query.Query.{Query}
use Rattle.snb_schema.specs.declared.row.Row.{Row}
use Rattle.snb_history.specs.History.{halted, hand}
use Rattle.snb_history.specs.Schedule.{IsOperation}
use Rattle.snb_book.specs.declared.claim.Ticket.{Ticket}
use Rattle.snb_book.specs.Kept.{IsInHand}
use Rattle.snb_board.specs.Boards.{HasLooked, Sitting, mine}
use Rattle.snb_plan.specs.Plans.{Plan, schedule_of}
use Rattle.snb_answered.specs.declared.done.Answered.{Answered}
use Rattle.snb_workers.specs.declared.work.Turn.{Turn}
use Rattle.snb_workers.specs.declared.work.Turn.TheVariants.{More, Over}
use Rattle.snb_replica.specs.Replicas.{StandsFor, Taken}
use Rattle.snb_replica.specs.Runs.{AreReplies, Asks}
use Rattle.snb_workers.specs.Works.{AreTimely, IsFollowing, IsLater, NothingIsLeft, added}

-- from the first sitting, where it had the old replica, the worker has come to this sitting and
-- this replica, and it hasn't halted
pub record HasCome (plan : Plan) (moments : Moments) (first : Sitting) (old : Taken) (s : Sitting)
    (now : Taken) : Type 0 where
  pub schedule : s.site.schedule ≡ schedule_of plan
  pub later : IsLater first s
  pub running : halted (mine s) s.worker ≡ false
  pub timely : AreTimely moments first.worker (length first.seen) s.seen
  pub some : (base : List Row) × IsFollowing base plan first.seen old
  pub follows : (base : List Row) → IsFollowing base plan first.seen old
      → IsFollowing base plan s.seen now

-- the reads that it has finished since are answered
pub record HasReplied (plan : Plan) (moments : Moments) (first : Sitting) (old : Taken)
    (s : Sitting) (now : Taken) (replies : List Answered) : Type 0 where
  pub answered : (base : List Row) → IsFollowing base plan first.seen old
      → AreReplies base plan moments (added first s) s.seen replies
  pub fronts : All (λ a. a.front ≤ now.front) replies

-- and it has nothing in hand
pub record IsAtWork (plan : Plan) (moments : Moments) (first : Sitting) (old : Taken) (s : Sitting)
    (now : Taken) (replies : List Answered) : Type 0 where
  pub come : HasCome plan moments first old s now
  pub empty : hand (mine s) s.worker ≡ None
  pub replied : HasReplied plan moments first old s now replies

-- or it has the ticket's operation in hand, which has no reply yet
pub record IsHolding (plan : Plan) (moments : Moments) (first : Sitting) (old : Taken) (s : Sitting)
    (now : Taken) (replies : List Answered) (ticket : Ticket) : Type 0 where
  pub come : HasCome plan moments first old s now
  pub worker : ticket.worker ≡ s.worker
  pub held : IsInHand s.seen ticket
  pub there : IsOperation (schedule_of plan) ticket.op
  pub new : All (λ other. other.op ≢ ticket.op) replies
  pub replied : HasReplied plan moments first old s now replies

-- a turn after which there may be more to do leaves the worker at work, and after the last one
-- nothing is left to start
abbrev pub TurnsOn : Plan → Moments → Sitting → Taken → Sitting → Taken → List Answered → Turn
    → Type 0
TurnsOn plan moments first old s now replies More = IsAtWork plan moments first old s now replies
TurnsOn plan moments first old s now replies Over =
    IsAtWork plan moments first old s now replies × NothingIsLeft s.site.schedule s.worker s.seen

-- the seat has perhaps looked at what has happened since, which the replica still follows, at an
-- earlier place never
pub record HasFollowed (plan : Plan) (s t : Sitting) (old new : Taken) : Type 0 where
  pub call : (t ≡ s) ⊎ HasLooked s t
  pub follows : (base : List Row) → IsFollowing base plan s.seen old
      → IsFollowing base plan t.seen new
  pub rise : old.front ≤ new.front

-- the replica has come to all that the seat has seen
abbrev pub IsAbreast : Plan → Sitting → Sitting → Taken → Taken → Type 0
IsAbreast plan s t old new =
    (base : List Row) → IsFollowing base plan s.seen old → StandsFor base plan t.seen new

-- the replica is ready for the operation: where that is a read, it has come to all that the seat
-- has seen
abbrev pub IsReadyFor : Plan → ℕ → Sitting → Sitting → Taken → Taken → Type 0
IsReadyFor plan op s t old new = (query : Query) → Asks plan op query → IsAbreast plan s t old new
