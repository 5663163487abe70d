-- The plan of update streams and parameters: what is done in a run, in order.
use Rattle.std.specs.Prelude.{◌≡◌, ℕ, ◌-◌, ◌⊎◌, true, false, Option, Some, None, List, [], ◌∷◌, Contains, filter_map, length, map, slice_get}
use Rattle.snb_ratio.specs.Ratios.{due_of}
use Rattle.snb_schema.specs.declared.op.Line.{Line}
use Rattle.snb_schema.specs.declared.query.Query.{Query}
use Rattle.snb_history.specs.declared.step.LaneKind.{LaneKind}
use Rattle.snb_history.specs.declared.step.Step.{Step}
use Rattle.snb_schema.specs.Awaiting.{adds_awaited, waits}
use Rattle.snb_schema.specs.Frequencies.{FrequencyTable}
use Rattle.snb_schema.specs.LineLanes.{LineLanes}
use Rattle.snb_schema.specs.QueryLists.{QueryLists}
use Rattle.snb_history.specs.Schedule.{Schedule, ComesBefore}
use Rattle.snb_schema.specs.StreamLines.{AreOfStreams}
use Rattle.snb_plan.specs.declared.instances.Instance.{Instance}
use Rattle.snb_plan.specs.declared.plan.Source.{Source}
use Rattle.snb_plan.specs.Closed.{Update}
use Rattle.snb_plan.specs.Merging.{AreInOrder, AreReads, AreUpdates, IsInTurn, PlacedLine, file_of, kinds_of, read_lane}

-- ---- lanes

-- ---- updates

-- ---- reads

-- ---- operations

-- what an operation does
pub data Work : Type 0 where
  InsertWork : (line : Line) → Work
  AskWork : (query : Query) → Work

-- an operation: what the scheduler sees of it, what it does, and of an update the line that it
-- comes from
pub record Operation : Type 0 where
  pub step : Step
  pub work : Work
  pub source : Option Source

-- an update as an operation, by a ratio in millionths and the t at which the plan begins
abbrev pub update_operation : LineLanes → ℕ → ℕ → PlacedLine → Operation
update_operation lanes ratio t0 p = record {
  step = record {
    lane = p.lane;
    place = p.place;
    t = p.line.t;
    t_d = p.line.t_d;
    due = due_of ratio t0 p.line.t;
    dependency = adds_awaited p.line.op;
    dependent = waits p.line.op;
    query = false;
  };
  work = InsertWork p.line;
  source = Some (record { file = file_of lanes p.lane; line = p.line.number });
}

-- a read as an operation, at its place of the read lane and the t of an update
abbrev pub read_operation : LineLanes → ℕ → ℕ → ℕ → ℕ → Query → Operation
read_operation lanes ratio t0 place t query = record {
  step = record {
    lane = read_lane lanes;
    place = place;
    t = t;
    t_d = 0;
    due = due_of ratio t0 t;
    dependency = false;
    dependent = false;
    query = true;
  };
  work = AskWork query;
  source = None;
}

-- the operation is one of the updates
abbrev pub IsUpdate : LineLanes → ℕ → ℕ → List PlacedLine → Operation → Type 0
IsUpdate lanes ratio t0 updates o =
    (p : PlacedLine) × Contains updates p × (o ≡ update_operation lanes ratio t0 p)

-- the operation is one of the reads: it goes with an update, and asks a query of the lists
pub record IsRead (lanes : LineLanes) (lists : QueryLists) (ratio t0 : ℕ)
    (updates : List PlacedLine) (reads : List Instance) (o : Operation) : Type 0 where
  pub place : ℕ
  pub instance : Instance
  pub with : PlacedLine
  pub query : Query
  pub here : slice_get reads place ≡ Some instance
  pub goes_with : slice_get updates (instance.at - 1) ≡ Some with
  pub asked : IsInTurn lists instance query
  pub is : o ≡ read_operation lanes ratio t0 place with.line.t query

-- ---- plans

-- the kinds of the lanes, and the operations in the order of their numbers
pub record Plan : Type 0 where
  pub kinds : List LaneKind
  pub operations : List Operation

-- the t of operation 0, or 0 where there is none
abbrev pub first_t : List Operation → ℕ
first_t [] = 0
first_t (o ∷ rest) = o.step.t

-- the plan has the updates and the reads of these lanes, parameters and frequencies, under this
-- ratio in millionths
pub record IsPlan (lanes : LineLanes) (lists : QueryLists) (frequencies : FrequencyTable)
    (ratio : ℕ) (plan : Plan) : Type 0 where
  pub updates : List PlacedLine
  pub reads : List Instance
  pub are_updates : AreUpdates lanes updates
  pub are_reads : AreReads frequencies (length updates) reads
  pub lane_kinds : plan.kinds ≡ kinds_of lanes
  pub numbered :
      AreInOrder (λ one other. ComesBefore one.step other.step)
      (λ o. IsUpdate lanes ratio (first_t plan.operations) updates o
      ⊎ IsRead lanes lists ratio (first_t plan.operations) updates reads o)
      plan.operations

-- what the scheduler sees
abbrev pub schedule_of : Plan → Schedule
schedule_of plan =
    record { steps = map (λ (o : Operation). o.step) plan.operations; kinds = plan.kinds }

-- the update that an operation is, if it is one
abbrev pub update_from : Step → Work → Option Source → Option Update
update_from step (InsertWork line) (Some source) =
    Some (record { lane = step.lane; file = source.file; line = line })
update_from step work source = None

-- those of a plan, in the order of their numbers, which is the merged order of the streams
abbrev pub updates_in : Plan → List Update
updates_in plan = filter_map (λ (o : Operation). update_from o.step o.work o.source) plan.operations

-- the query that an operation asks, if it is a read
abbrev pub query_from : Work → Option Query
query_from (InsertWork line) = None
query_from (AskWork query) = Some query

-- those of a plan, in the order of their numbers
abbrev pub queries_in : Plan → List Query
queries_in plan = filter_map (λ (o : Operation). query_from o.work) plan.operations

-- the plan is one of lanes of streams
pub record IsOfStreams (plan : Plan) : Type 0 where
  pub lanes : LineLanes
  pub lists : QueryLists
  pub frequencies : FrequencyTable
  pub ratio : ℕ
  pub is_plan : IsPlan lanes lists frequencies ratio plan
  pub streams : AreOfStreams lanes
