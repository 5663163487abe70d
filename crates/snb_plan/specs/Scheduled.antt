-- Which positions are those of the steps of a schedule. Cited by contracts of private functions
-- alone.
use Rattle.std.specs.Prelude.{◌≡◌, ℕ, ◌<◌, ◌≤◌, ◌⊎◌, List, AllPairs, Option, Some, None, filter_map, if◌then◌else◌, length, map, slice_index_or, true, false}
use Rattle.snb_history.specs.declared.step.Step.{Step}
use Rattle.snb_schema.specs.Frequencies.{FrequencyTable}
use Rattle.snb_schema.specs.LineLanes.{LineLanes}
use Rattle.snb_schema.specs.Queries.{IsComplex}
use Rattle.snb_schema.specs.QueryLists.{QueryLists, list_of}
use Rattle.snb_history.specs.Schedule.{Schedule, no_step}
use Rattle.snb_plan.specs.declared.instances.Instance.{Instance}
use Rattle.snb_plan.specs.declared.positions.Position.{Position}
use Rattle.snb_plan.specs.Closed.{Update}
use Rattle.snb_plan.specs.Merging.{AreReads, file_of, kinds_of, lane_of, numbered_lanes, read_lane}
use Rattle.snb_plan.specs.Positions.{AreAllPositions, AreUpdatePositions, IsUpdatePosition, instance_at, line_at, position_step, position_t}

-- the step is that of a line or of a read that is kept
pub record IsKept (lanes : LineLanes) (lists : QueryLists) (reads : List Instance) (step : Step)
    : Type 0 where
  pub lane : step.query ≡ false → step.lane < length (numbered_lanes lanes)
  pub place : step.query ≡ false → step.place < length (lane_of lanes step.lane)
  pub line_t : step.query ≡ false → step.t ≡ (line_at lanes step.lane step.place).t
  pub read : step.query ≡ true → step.place < length reads
  pub complex : step.query ≡ true → IsComplex (instance_at reads step.place).query
  pub turns : step.query ≡ true → 1 ≤ (instance_at reads step.place).turn
  pub listed : step.query ≡ true → 0 < length (list_of lists (instance_at reads step.place).query)

-- each step is
abbrev pub AreKept : LineLanes → QueryLists → List Instance → List Step → Type 0
AreKept lanes lists reads steps =
    (k : ℕ) → k < length steps → IsKept lanes lists reads (slice_index_or steps k no_step)

-- a line or the read lane is at the position
abbrev pub IsThere : LineLanes → Position → Type 0
IsThere lanes s = IsUpdatePosition lanes s ⊎ (s.lane ≡ read_lane lanes)

-- the position of a step
abbrev pub step_position : Step → Position
step_position step = record { t = step.t; lane = step.lane; place = step.place }

-- a line is where each step that is no read says
abbrev pub AreLines : LineLanes → List Step → Type 0
AreLines lanes steps =
    (k : ℕ) → k < length steps → (slice_index_or steps k no_step).query ≡ false
    → IsUpdatePosition lanes (step_position (slice_index_or steps k no_step))

-- t never falls along the steps
abbrev pub StepsRise : List Step → Type 0
StepsRise steps = AllPairs (λ one other. one.t ≤ other.t) steps

-- the update of a step, and those of steps
abbrev pub update_at : LineLanes → Step → Option Update
update_at lanes step =
    if step.query then None else Some
    (record {
      lane = step.lane;
      file = file_of lanes step.lane;
      line = line_at lanes step.lane step.place;
    })

abbrev pub updates_at : LineLanes → List Step → List Update
updates_at lanes steps = filter_map (update_at lanes) steps

-- these are the reads and the schedule of a plan
pub record IsScheduled (lanes : LineLanes) (frequencies : FrequencyTable) (ratio : ℕ)
    (reads : List Instance) (schedule : Schedule) : Type 0 where
  pub updates : List Position
  pub positions : List Position
  pub are_updates : AreUpdatePositions lanes updates
  pub are_reads : AreReads frequencies (length updates) reads
  pub are_all : AreAllPositions lanes updates reads positions
  pub steps : schedule.steps ≡ map (position_step lanes ratio (position_t positions)) positions
  pub kinds : schedule.kinds ≡ kinds_of lanes
