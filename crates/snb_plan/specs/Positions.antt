-- Where operations stand, before they are put in order. Cited by contracts of private functions
-- alone.
use Rattle.std.specs.Prelude.{◌≡◌, ℕ, ◌-◌, ◌<◌, ◌⊎◌, ◌%◌, ◌∷◌, ◌==◌, [], List, Some, None, if◌then◌else◌, length, slice_index_or, true, false}
use Rattle.snb_ratio.specs.Ratios.{due_of}
use Rattle.snb_schema.specs.declared.op.Line.{Line}
use Rattle.snb_schema.specs.declared.query.Query.{Query}
use Rattle.snb_schema.specs.declared.query.Query.TheVariants.{Is1}
use Rattle.snb_history.specs.declared.step.Step.{Step}
use Rattle.snb_schema.specs.Awaiting.{adds_awaited, waits}
use Rattle.snb_schema.specs.LineLanes.{LineLanes}
use Rattle.snb_schema.specs.QueryLists.{QueryLists, list_of}
use Rattle.snb_plan.specs.declared.instances.Instance.{Instance}
use Rattle.snb_plan.specs.declared.positions.Position.{Position}
use Rattle.snb_plan.specs.Plans.{Operation, AskWork, InsertWork}
use Rattle.snb_plan.specs.Merging.{AreInOrder, file_of, lane_of, numbered_lanes, read_lane}
use Rattle.snb_plan.specs.Instances.{no_instance, no_line, no_position}

-- ---- instances

-- ---- positions

-- by t, then by lane, then by place
abbrev pub IsPositionBefore : Position → Position → Type 0
IsPositionBefore one other =
    (one.t < other.t)
    ⊎ ((one.t ≡ other.t)
    × ((one.lane < other.lane) ⊎ ((one.lane ≡ other.lane) × (one.place < other.place))))

-- the line at a place of a lane
abbrev pub line_at : LineLanes → ℕ → ℕ → Line
line_at lanes lane place = slice_index_or (lane_of lanes lane) place no_line

-- a line stands at the position
pub record IsUpdatePosition (lanes : LineLanes) (s : Position) : Type 0 where
  pub in_lanes : s.lane < length (numbered_lanes lanes)
  pub within : s.place < length (lane_of lanes s.lane)
  pub at_t : s.t ≡ (line_at lanes s.lane s.place).t

-- a read stands at the position
pub record IsReadPosition (lanes : LineLanes) (updates : List Position) (reads : List Instance)
    (s : Position) : Type 0 where
  pub in_lane : s.lane ≡ read_lane lanes
  pub within : s.place < length reads
  pub at_t : s.t
      ≡ (slice_index_or updates ((slice_index_or reads s.place no_instance).at - 1) no_position).t

-- the positions of all lines, and of all operations, in order
abbrev pub AreUpdatePositions : LineLanes → List Position → Type 0
AreUpdatePositions lanes positions = AreInOrder IsPositionBefore (IsUpdatePosition lanes) positions

abbrev pub AreAllPositions : LineLanes → List Position → List Instance → List Position → Type 0
AreAllPositions lanes updates reads positions =
    AreInOrder IsPositionBefore
    (λ s. IsUpdatePosition lanes s ⊎ IsReadPosition lanes updates reads s) positions

-- ---- steps and what is kept of a plan

-- the step of a line
abbrev pub update_step : ℕ → ℕ → Position → Line → Step
update_step ratio t0 s line = record {
  lane = s.lane;
  place = s.place;
  t = line.t;
  t_d = line.t_d;
  due = due_of ratio t0 line.t;
  dependency = adds_awaited line.op;
  dependent = waits line.op;
  query = false;
}

-- the step of a read
abbrev pub read_step : ℕ → ℕ → Position → Step
read_step ratio t0 s = record {
  lane = s.lane;
  place = s.place;
  t = s.t;
  t_d = 0;
  due = due_of ratio t0 s.t;
  dependency = false;
  dependent = false;
  query = true;
}

-- the step at a position, which is that of a read in the lane of the reads
abbrev pub position_step : LineLanes → ℕ → ℕ → Position → Step
position_step lanes ratio t0 s =
    if s.lane == read_lane lanes then read_step ratio t0 s else update_step ratio t0 s
    (line_at lanes s.lane s.place)

-- the t of the first position
abbrev pub position_t : List Position → ℕ
position_t [] = 0
position_t (s ∷ positions) = s.t

-- the query of an instance
abbrev pub query_at : QueryLists → Instance → Query
query_at lists i =
    slice_index_or (list_of lists i.query) ((i.turn - 1) % length (list_of lists i.query)) (Is1 0)

abbrev pub instance_at : List Instance → ℕ → Instance
instance_at reads place = slice_index_or reads place no_instance

-- the operation of a step
abbrev pub operation_of : LineLanes → QueryLists → List Instance → Step → Operation
operation_of lanes lists reads step = record {
  step = step;
  work = if step.query then AskWork (query_at lists (instance_at reads step.place)) else InsertWork
      (line_at lanes step.lane step.place);
  source = if step.query then None else Some
      (record {
        file = file_of lanes step.lane;
        line = (line_at lanes step.lane step.place).number;
      });
}
