-- Laws of plans and of closed updates.
use Rattle.std.specs.Prelude.{◌≡◌, ℕ, ◌<◌, ◌≤◌, List, None, false}
use Rattle.snb_history.specs.declared.event.Event.{Event}
use Rattle.snb_history.specs.declared.event.Event.TheVariants.{Start}
use Rattle.snb_schema.specs.declared.key.Key.{Key}
use Rattle.snb_schema.specs.declared.refusal.Refusal.{Refusal}
use Rattle.snb_schema.specs.Frequencies.{FrequencyTable}
use Rattle.snb_history.specs.History.{hand, halted, last, started}
use Rattle.snb_schema.specs.LineLanes.{LineLanes}
use Rattle.snb_schema.specs.QueryLists.{QueryLists}
use Rattle.snb_history.specs.Rules.{Fits, IsLegal}
use Rattle.snb_history.specs.Schedule.{Schedule, IsOperation, IsTimely, step_of}
use Rattle.snb_plan.specs.Closed.{Update, IsClosed, IsFirstWrong}
use Rattle.snb_plan.specs.Plans.{IsOfStreams, IsPlan, Plan, schedule_of, updates_in}

-- by the keys of a dataset, updates are refused in one way at most, and aren't closed where they
-- are
abbrev pub ClosedIsOne : (Key → Type 0) → Type 0
ClosedIsOne holds =
    (all : List Update) (r : Refusal) → IsFirstWrong holds all r
    → ((q : Refusal) → IsFirstWrong holds all q → q ≡ r) × (¬ IsClosed holds all)

-- lanes, parameters, frequencies and a ratio have one plan at most
abbrev pub PlanIsOne : Type 0
PlanIsOne =
    (lanes : LineLanes) (lists : QueryLists) (frequencies : FrequencyTable) (ratio : ℕ)
    (one other : Plan)
    → IsPlan lanes lists frequencies ratio one → IsPlan lanes lists frequencies ratio other
    → one ≡ other

-- the steps of a closed plan rise by t and by due time, and each dependent needs only what lies
-- before it
abbrev pub ClosedPlanIsTimely : (Key → Type 0) → Type 0
ClosedPlanIsTimely holds =
    (plan : Plan) → IsOfStreams plan → IsClosed holds (updates_in plan)
    → IsTimely (schedule_of plan)

-- an unstarted operation, due no later than any other, that each worker may start once it is due
pub record IsNext (s : Schedule) (workers : ℕ) (h : List Event) (op : ℕ) : Type 0 where
  pub there : IsOperation s op
  pub fresh : started h op ≡ false
  pub earliest : (j : ℕ) → IsOperation s j → started h j ≡ false
      → (step_of s op).due ≤ (step_of s j).due
  pub starts : (worker at : ℕ) → worker < workers → (step_of s op).due ≤ at → last h ≤ at
      → Fits s workers h (Start op worker at)

-- in a legal history of a closed plan, where nobody has an operation in hand, nobody has halted and
-- not all is started, there is a next operation
abbrev pub ClosedPlanIsNotStuck : (Key → Type 0) → Type 0
ClosedPlanIsNotStuck holds =
    (plan : Plan) (workers : ℕ) (h : List Event) → IsOfStreams plan
    → IsClosed holds (updates_in plan) → IsLegal (schedule_of plan) workers h
    → ((w : ℕ) → hand h w ≡ None) → ((w : ℕ) → halted h w ≡ false) → (k : ℕ)
    → IsOperation (schedule_of plan) k → started h k ≡ false
    → (op : ℕ) × IsNext (schedule_of plan) workers h op
