-- Who waits for whom in the history of a plan: the dependency rule of Erling et al., SIGMOD 2015,
-- said of the lines of the streams.
use Rattle.std.specs.Prelude.{◌≡◌, ◌≤◌, ◌<ℤ◌, ℕ, pos, List, ◌∷◌, ◌++◌, Some, true, false, slice_get}
use Rattle.snb_history.specs.declared.event.Event.{Event}
use Rattle.snb_history.specs.declared.event.Event.TheVariants.{Start}
use Rattle.snb_schema.specs.declared.op.Line.{Line}
use Rattle.snb_schema.specs.Awaiting.{adds_awaited, waits}
use Rattle.snb_history.specs.Completion.{completion}
use Rattle.snb_history.specs.History.{finished}
use Rattle.snb_history.specs.Rules.{IsLegal}
use Rattle.snb_plan.specs.Plans.{InsertWork, IsOfStreams, Operation, Plan, schedule_of}

-- the operation of this number does the insert of this line
abbrev pub IsInsertOf : Plan → ℕ → Line → Type 0
IsInsertOf plan k line =
    (o : Operation) × (slice_get plan.operations k ≡ Some o) × (o.work ≡ InsertWork line)

-- no insert that waits starts before every insert of a person or a forum has finished whose t is at
-- most its t_d
abbrev pub WaitsForAll : Plan → List Event → Type 0
WaitsForAll plan h =
    (g : List Event) (k worker at : ℕ) (rest : List Event) (line : Line) (j : ℕ) (awaited : Line)
    → g ++ Start k worker at ∷ rest ≡ h
    → IsInsertOf plan k line → waits line.op ≡ true → IsInsertOf plan j awaited
    → adds_awaited awaited.op ≡ true → awaited.t ≤ line.t_d
    → finished g j ≡ true

-- at no time does the completion time come to the t of an insert of a person or a forum that hasn't
-- finished
abbrev pub StaysBelow : Plan → List Event → Type 0
StaysBelow plan h =
    (g rest : List Event) (j : ℕ) (awaited : Line) → g ++ rest ≡ h → IsInsertOf plan j awaited
    → adds_awaited awaited.op ≡ true
    → finished g j ≡ false → completion (schedule_of plan) g <ℤ pos awaited.t

-- both are so in every legal history of a plan of streams
abbrev pub RunsWait : Type 0
RunsWait =
    (plan : Plan) (workers : ℕ) (h : List Event) → IsOfStreams plan
    → IsLegal (schedule_of plan) workers h → WaitsForAll plan h × StaysBelow plan h
