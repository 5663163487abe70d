-- A law of the counts in a log.
use Rattle.std.specs.Prelude.{◌≡◌, ℕ, List}
use Rattle.snb_history.specs.declared.event.Event.{Event}
use Rattle.snb_schema.specs.declared.row.Row.{Row}
use Rattle.snb_history.specs.Rules.{IsLegal}
use Rattle.snb_graph_model.specs.Graphs.{IsGraph}
use Rattle.snb_graph_model.specs.Soundness.{Sound}
use Rattle.snb_plan.specs.Plans.{Plan, schedule_of}
use Rattle.snb_workers_replay.specs.Laws.{IsReplayed}
use Rattle.snb_replica.specs.Counts.{IsCount}

-- in a legal history of a plan that is closed over a sound graph, a Finish has one count
abbrev pub OneCount : Type 0
OneCount =
    (base : List Row) (plan : Plan) (workers : ℕ) (h : List Event) (e : Event) (m n : ℕ)
    → IsGraph base → Sound base → IsReplayed base plan
    → IsLegal (schedule_of plan) workers h → IsCount base plan h e m → IsCount base plan h e n
    → m ≡ n
