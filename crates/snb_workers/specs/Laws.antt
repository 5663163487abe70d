-- Laws of runs, and of the counts that their logs tell.
use Rattle.std.specs.Prelude.{◌≡◌, ℕ, ◌<◌, min, List, All, Contains, length}
use Rattle.snb_base.specs.Moments.{Moments, only}
use Rattle.serde_json.specs.Written.{compact_text}
use Rattle.snb_history.specs.declared.event.Event.{Event}
use Rattle.snb_schema.specs.declared.limits.TheConstants.{MAX_AT}
use Rattle.snb_schema.specs.declared.query.Query.{Query}
use Rattle.snb_schema.specs.declared.row.Row.{Row}
use Rattle.snb_history.specs.Rules.{IsLegal}
use Rattle.snb_graph_model.specs.Graphs.{IsGraph}
use Rattle.snb_graph_model.specs.Soundness.{Sound}
use Rattle.snb_plan.specs.Plans.{Plan, schedule_of}
use Rattle.snb_read_model.specs.Cells.{ByteCell}
use Rattle.snb_read_model.specs.Replies.{IsReply}
use Rattle.snb_validation.specs.ReplyData.{reply_data}
use Rattle.snb_replica.specs.Counts.{TellsCounts, first_rows, logged_of}
use Rattle.snb_answered.specs.declared.done.Answered.{Answered}
use Rattle.snb_replica.specs.Replicas.{IfFinish}
use Rattle.snb_replica.specs.ReplyTexts.{IsReplied}
use Rattle.snb_replica.specs.Runs.{AreByClock, HasRun, IsAt}

-- in a legal history of a plan, the operation of each Finish is one of the plan
abbrev pub FinishesAreOfOperations : Type 0
FinishesAreOfOperations =
    (plan : Plan) (workers : ℕ) (h : List Event) (e : Event) → IsLegal (schedule_of plan) workers h
    → Contains h e
    → IfFinish e (λ op. op < length plan.operations)

-- where the clock can answer one moment alone, each Start and Finish is at this moment, or at
-- MAX_AT where it is later
abbrev pub OneMoment : Type 0
OneMoment = (at : ℕ) (h : List Event) → AreByClock (only at) h → All (IsAt (min at MAX_AT)) h

-- what the log of a run tells by the replies to its reads is its history, each Finish with its
-- count
abbrev pub CountsOfARun : Type 0
CountsOfARun =
    (workers : ℕ) (plan : Plan) (moments : Moments) (base : List Row) (h : List Event)
    (replies : List Answered) (graph : List Row)
    → HasRun workers plan moments base h replies graph
    → TellsCounts base plan h (logged_of replies h)

-- on a sound graph, the rows and the text that are kept of a reply are those of the reply
abbrev pub OneEntry : Type 0
OneEntry =
    (g : List Row) (query : Query) (rows : ℕ) (text : List ℕ) (reply : List (List (List ByteCell)))
    → IsGraph g → Sound g → IsReplied g query rows text
    → IsReply g query reply → (rows ≡ first_rows reply) × (text ≡ compact_text (reply_data reply))
