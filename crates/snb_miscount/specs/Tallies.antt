-- How the first wrong count of a log is found: the counts that have to be looked at, and the least
-- wrong one among some of them.
use Rattle.std.specs.Prelude.{◌≡◌, ◌≢◌, ℕ, ◌≤◌, ◌⊎◌, List, length, take, Contains, IfSome, Option, None, Some, slice_get}
use Rattle.snb_history.specs.declared.event.Event.{Event}
use Rattle.snb_history.specs.declared.event.Event.TheVariants.{Finish}
use Rattle.snb_history.specs.declared.logged.Logged.{Logged}
use Rattle.snb_schema.specs.declared.op.Line.{Line}
use Rattle.snb_schema.specs.declared.row.Row.{Row}
use Rattle.snb_history.specs.Rules.{IsLegal}
use Rattle.snb_graph_model.specs.Graphs.{HoldsKey}
use Rattle.snb_plan.specs.Closed.{IsClosed}
use Rattle.snb_plan.specs.Plans.{AskWork, InsertWork, Operation, Plan, Work, schedule_of, updates_in}
use Rattle.snb_read_model.specs.Cells.{ByteCell}
use Rattle.snb_read_model.specs.Replies.{IsReply}
use Rattle.snb_audit_model.specs.declared.miscount.Miscount.{Miscount}
use Rattle.snb_miscount.specs.declared.tally.Tally.{Tally}
use Rattle.snb_replica.specs.Counts.{first_rows}
use Rattle.snb_audit_model.specs.Miscounts.{IsMiscount}
use Rattle.snb_replica.specs.Replicas.{IfFinish, IsCountable, StandsFor, Taken}

-- ---- the counts to look at

-- the operation of this number is an insert
pub record IsInsert (plan : Plan) (op : ℕ) : Type 0 where
  pub operation : Operation
  pub here : slice_get plan.operations op ≡ Some operation
  pub line : Line
  pub inserts : operation.work ≡ InsertWork line

-- the event has no count, or it is no Finish, or it finishes an insert with a count of 0
abbrev pub IsFine : Plan → Logged → Type 0
IsFine plan one =
    (found : ℕ) → one.rows ≡ Some found → IfFinish one.event (λ op. (found ≡ 0) × IsInsert plan op)

-- the tally has the operation, the front and the count of this Finish
pub record IsTallyOf (one : Logged) (t : Tally) : Type 0 where
  pub worker : ℕ
  pub moment : ℕ
  pub finish : one.event ≡ Finish t.op worker moment t.front
  pub count : one.rows ≡ Some t.found

-- the Finish stands in the log, at its number
pub record IsTally (logged : List Logged) (t : Tally) : Type 0 where
  pub one : Logged
  pub there : slice_get logged t.event ≡ Some one
  pub of : IsTallyOf one t

-- one of the tallies is that of the event of this number
pub record HasTally (tallies : List Tally) (k : ℕ) : Type 0 where
  pub it : Tally
  pub held : Contains tallies it
  pub event : it.event ≡ k

-- each event of the log is fine or has a tally
abbrev pub HasTallies : Plan → List Logged → List Tally → Type 0
HasTallies plan logged tallies =
    (k : ℕ) (one : Logged) → slice_get logged k ≡ Some one → IsFine plan one ⊎ HasTally tallies k

-- ---- the counts

-- so many rows has the first answer of a reply to a read on the graph, and an insert has 0
abbrev pub HasRows : List Row → Work → ℕ → Type 0
HasRows graph (InsertWork line) n = n ≡ 0
HasRows graph (AskWork query) n =
    (reply : List (List (List ByteCell))) × IsReply graph query reply × (n ≡ first_rows reply)

-- the same of the operation of this number
abbrev pub CountsRows : Plan → List Row → ℕ → ℕ → Type 0
CountsRows plan graph op n =
    (o : Operation) × (slice_get plan.operations op ≡ Some o) × HasRows graph o.work n

-- a replica stands for a front of a legal history of the plan, which is closed over the base
pub record IsAlong (base : List Row) (plan : Plan) (h : List Event) (r : Taken) : Type 0 where
  pub stands : StandsFor base plan (take r.front h) r
  pub within : r.front ≤ length h
  pub closed : IsClosed (HoldsKey base) (updates_in plan)
  pub workers : ℕ
  pub few : IsCountable workers h
  pub legal : IsLegal (schedule_of plan) workers h

-- from one front of the history it has gone to another
abbrev pub HasGone : Plan → List Event → ℕ → Taken → Taken → Type 0
HasGone plan h front old new =
    (base : List Row) → IsAlong base plan h old → IsAlong base plan h new × (new.front ≡ front)

-- ---- the least

-- the earlier of two: one of them, and no later than either
pub record IsEarlier (best : Option Miscount) (other m : Miscount) : Type 0 where
  pub either : (m ≡ other) ⊎ (best ≡ Some m)
  pub before_best : IfSome best (λ b. m.event ≤ b.event)
  pub before_other : m.event ≤ other.event

-- what is wrong in a tally, where the event needs this count
abbrev pub miscount_of : Tally → ℕ → Miscount
miscount_of t needs = record { event = t.event; needs = needs; found = t.found }

-- with one tally more, whose event needs this count, the best stays as it was, or is the earlier
-- one
pub record IsWeighed (best : Option Miscount) (t : Tally) (needs : ℕ) (new : Option Miscount)
    : Type 0 where
  pub right : needs ≡ t.found → new ≡ best
  pub wrong : needs ≢ t.found → (m : Miscount) × (new ≡ Some m)
      × IsEarlier best (miscount_of t needs) m

-- the first wrong count of a log among those of these tallies, if there is one
abbrev pub IsLeastAmong : List Row → Plan → List Logged → List Tally → Option Miscount → Type 0
IsLeastAmong base plan logged seen None =
    (m : Miscount) → IsMiscount base plan logged m → ¬ HasTally seen m.event
IsLeastAmong base plan logged seen (Some b) =
    IsMiscount base plan logged b ×
    ((m : Miscount) → IsMiscount base plan logged m → HasTally seen m.event → b.event ≤ m.event)
