-- Laws of the input of a formula workload, of any size.
use Rattle.std.specs.Prelude.{◌≡◌, ℕ, ◌*◌, ◌<◌, ◌≤◌, ◌⊎◌}
use Rattle.snb_schema.specs.declared.limits.TheConstants.{MAX_ROWS, MAX_TRIAL}
use Rattle.snb_schema.specs.Frequencies.{FrequencyTable, frequency_at}
use Rattle.snb_schema.specs.LineLanes.{update_count}
use Rattle.snb_schema.specs.QueryLists.{HaveParameters, QueryLists}
use Rattle.snb_schema.specs.StreamLines.{AreOfStreams}
use Rattle.snb_plan.specs.Closed.{IsClosed}
use Rattle.snb_plan.specs.Plans.{IsPlan, Plan, updates_in}
use Rattle.snb_graph_model.specs.Graphs.{HoldsKey}
use Rattle.snb_trial.specs.Trial.{dataset, lanes, lists}

-- the lanes are those of streams
abbrev pub LanesAreOfStreams : Type 0
LanesAreOfStreams = (n : ℕ) → n ≤ MAX_TRIAL → AreOfStreams (lanes n)

-- there are seven updates for each i
abbrev pub SevenOfEach : Type 0
SevenOfEach = (n : ℕ) → update_count (lanes n) ≡ 7 * n

-- which are within the limit of an input
abbrev pub UpdatesAreFew : Type 0
UpdatesAreFew = (n : ℕ) → n ≤ MAX_TRIAL → update_count (lanes n) ≤ MAX_ROWS

-- no query but 2 and 13 has a frequency
abbrev pub NamesTwo : FrequencyTable → Type 0
NamesTwo frequencies = (q : ℕ) → 0 < frequency_at frequencies q → (q ≡ 2) ⊎ (q ≡ 13)

-- the lists have a parameter for each query of such frequencies
abbrev pub ListsAreEnough : Type 0
ListsAreEnough =
    (n : ℕ) (frequencies : FrequencyTable) → NamesTwo frequencies
    → HaveParameters (lists n) frequencies

-- the updates of each plan of the lanes are closed over the dataset
abbrev pub UpdatesAreClosed : Type 0
UpdatesAreClosed =
    (n : ℕ) (asked : QueryLists) (frequencies : FrequencyTable) (ratio : ℕ) (plan : Plan)
    → IsPlan (lanes n) asked frequencies ratio plan → IsClosed (HoldsKey dataset) (updates_in plan)
