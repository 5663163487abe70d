-- A dataset and a plan that can be run.
use Rattle.std.specs.Prelude.{◌≡◌, List}
use Rattle.snb_schema.specs.declared.row.Row.{Row}
use Rattle.snb_graph_model.specs.Graphs.{HoldsKey}
use Rattle.snb_graph_model.specs.Soundness.{Sound}
use Rattle.snb_plan.specs.Closed.{IsClosed}
use Rattle.snb_plan.specs.Plans.{Plan, updates_in}

-- the dataset is sound, and the plan is closed over it
abbrev pub IsWhole : List Row → Plan → Type 0
IsWhole base plan = Sound base × IsClosed (HoldsKey base) (updates_in plan)
