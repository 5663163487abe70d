-- What a replica has come to, and what a reply adds. Cited by contracts of private functions alone.
use Rattle.std.specs.Prelude.{◌≡◌, ℕ, ◌++◌, List, Some, slice_get, true}
use Rattle.snb_base.specs.Moments.{Moments}
use Rattle.snb_history.specs.declared.event.Event.{Event}
use Rattle.snb_schema.specs.declared.query.Query.{Query}
use Rattle.snb_schema.specs.declared.row.Row.{Row}
use Rattle.snb_plan.specs.Plans.{AskWork, InsertWork, Operation, Plan, Work}
use Rattle.snb_answered.specs.declared.done.Answered.{Answered}
use Rattle.snb_workers.specs.declared.work.Served.{Served}
use Rattle.snb_answered.specs.Replies.{HasAdded}
use Rattle.snb_replica.specs.Replicas.{MayTake, Taken}
use Rattle.snb_replica.specs.ReplyTexts.{IsReplied}

-- the replica stands for the first events of the book's history, and may take the others
abbrev pub IsBehind : Plan → List Event → Taken → List Row → Type 0
IsBehind plan h r base =
    (g : List Event) × (rest : List Event) × (g ++ rest ≡ h) × MayTake plan rest r base g

-- the reply is that to the query on the replica's graph, at the replica's front, and the clock
-- could answer this moment once its bytes were there
pub record IsReplyNow (moments : Moments) (op : ℕ) (r : Taken) (query : Query) (now : ℕ)
    (a : Answered) : Type 0 where
  pub number : a.op ≡ op
  pub front : a.front ≡ r.front
  pub reply : IsReplied r.graph query a.rows a.text
  pub after : moments.tells_after a.text now ≡ true

-- the front is that of the operation's Finish: the replica's for a read, whose reply is added, and
-- 0 for an insert, which adds none; the clock was asked for the moment of the Finish when all else
-- was done
abbrev pub IsDone : Moments → ℕ → Taken → List Answered → List Answered → Served → Work → Type 0
IsDone moments op r old new s (InsertWork line) = (s.front ≡ 0) × (new ≡ old)
IsDone moments op r old new s (AskWork query) =
    (s.front ≡ r.front)
    × ((a : Answered) × IsReplyNow moments op r query s.now a × HasAdded a old new)

abbrev pub IsServed : Plan → Moments → ℕ → Taken → List Answered → List Answered → Served → Type 0
IsServed plan moments op r old new s =
    (o : Operation) × (slice_get plan.operations op ≡ Some o) × IsDone moments op r old new s o.work
