-- Laws of replay.
use Rattle.std.specs.Prelude.{◌≡◌, ℕ, List, [], ◌∷◌, ◌++◌, Some}
use Rattle.snb_history.specs.declared.event.Event.{Event}
use Rattle.snb_schema.specs.declared.op.Op.{Op}
use Rattle.snb_schema.specs.declared.row.Row.{Row}
use Rattle.snb_history.specs.Rules.{IsComplete, IsLegal}
use Rattle.snb_graph_model.specs.Graphs.{HoldsKey, IsGraph}
use Rattle.snb_graph_model.specs.Soundness.{Sound}
use Rattle.snb_plan.specs.Closed.{IsClosed}
use Rattle.snb_plan.specs.Plans.{IsOfStreams, Plan, schedule_of, updates_in}
use Rattle.snb_inserts.specs.Applying.{IsWelcome}
use Rattle.snb_workers_replay.specs.Replay.{IsAfter, IsGraphBefore, IsFinal, finished_insert, insert_at}

-- the plan is one of lanes of streams, and its updates are closed over the base
pub record IsReplayed (base : List Row) (plan : Plan) : Type 0 where
  pub of_streams : IsOfStreams plan
  pub closed : IsClosed (HoldsKey base) (updates_in plan)

-- in a legal history of such a plan, each insert finds all that it refers to, and its keys are new,
-- after what has finished before it
abbrev pub WelcomeInTurn : Type 0
WelcomeInTurn =
    (base : List Row) (plan : Plan) (workers : ℕ) (g : List Event) (e : Event) (op : Op)
    (graph : List Row) → IsReplayed base plan
    → IsLegal (schedule_of plan) workers (g ++ e ∷ []) → finished_insert plan e ≡ Some op
    → IsAfter base plan g graph → IsWelcome graph op

-- in the order of their numbers, which is the merged order of the streams, each insert of such a
-- plan finds all that it refers to, and its keys are new, after those of smaller number
abbrev pub WelcomeInOrder : Type 0
WelcomeInOrder =
    (base : List Row) (plan : Plan) (k : ℕ) (op : Op) (graph : List Row) → IsReplayed base plan
    → insert_at plan k ≡ Some op
    → IsGraphBefore base plan k graph → IsWelcome graph op

-- after a legal, complete history the graph is that of all inserts
abbrev pub CompleteIsFinal : Type 0
CompleteIsFinal =
    (base : List Row) (plan : Plan) (workers : ℕ) (h : List Event) (graph : List Row)
    → IsLegal (schedule_of plan) workers h
    → IsComplete (schedule_of plan) h → IsAfter base plan h graph → IsFinal base plan graph

-- two legal, complete histories of one plan, of whatever workers, leave one graph
abbrev pub HistoriesAgree : Type 0
HistoriesAgree =
    (base : List Row) (plan : Plan) (workers others : ℕ) (h k : List Event) (graph other : List Row)
    → IsLegal (schedule_of plan) workers h
    → IsComplete (schedule_of plan) h → IsAfter base plan h graph
    → IsLegal (schedule_of plan) others k → IsComplete (schedule_of plan) k
    → IsAfter base plan k other → graph ≡ other

-- after each prefix of a legal history of a plan that is closed over a sound graph there is a
-- graph, and it is sound
abbrev pub PrefixesAreSound : Type 0
PrefixesAreSound =
    (base : List Row) (plan : Plan) (workers : ℕ) (g rest h : List Event) → IsGraph base
    → Sound base → IsReplayed base plan
    → IsLegal (schedule_of plan) workers h → g ++ rest ≡ h
    → (graph : List Row) × IsAfter base plan g graph × Sound graph
