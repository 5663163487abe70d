-- What the workers of a run begin with, and what they leave. Cited by contracts of private
-- functions alone.
use Rattle.std.specs.Prelude.{◌≡◌, ◌<◌, ◌≤◌, ℕ, List, [], length, map, All, Any, Option, Result, Ok, slice_index_or}
use Rattle.snb_base.specs.Moments.{Moments}
use Rattle.std.specs.List.{flat_map}
use Rattle.std.specs.Option.{IfSome}
use Rattle.std.specs.Result.{IfOk}
use Rattle.snb_schema.specs.declared.limits.TheConstants.{MAX_WORKERS}
use Rattle.snb_schema.specs.declared.row.Row.{Row}
use Rattle.snb_graph_model.specs.Graphs.{HoldsKey, IsGraph}
use Rattle.snb_board.specs.Boards.{AreSeats, Site, Sitting}
use Rattle.snb_plan.specs.Closed.{IsClosed}
use Rattle.snb_plan.specs.Plans.{Plan, schedule_of, updates_in}
use Rattle.snb_workers.specs.declared.crew.Worker.{Worker}
use Rattle.snb_answered.specs.declared.done.Answered.{Answered}
use Rattle.snb_replica.specs.Replicas.{Taken}
use Rattle.snb_workers.specs.Works.{AreTimely, HasWorked, IsFollowing, IsLater}

-- a worker may work: it has its seat at the board, and has seen nothing
pub record IsReady (z : Site) (seat : Sitting) : Type 0 where
  pub site : seat.site ≡ z
  pub seen : seat.seen ≡ []

abbrev pub AreReady : Site → List Sitting → Type 0
AreReady z seats = All (IsReady z) seats

-- a replica of the base
abbrev pub opening : List Row → Taken
opening base = record { graph = base; front = 0 }

-- what a worker leaves that began at the seat with a replica of the base
pub record Leaves (plan : Plan) (moments : Moments) (base : List Row) (seat : Sitting)
    (worker : Worker) : Type 0 where
  pub later : IsLater seat worker.seat
  pub follows : IsFollowing base plan worker.seat.seen worker.replica
  pub timely : AreTimely moments seat.worker (length seat.seen) worker.seat.seen
  pub worked : HasWorked plan moments seat worker.seat (opening base) worker.replica worker.replies

-- so of each worker that had memory
pub record AllLeave {E : Type 0} (plan : Plan) (moments : Moments) (base : List Row)
    (seats : List Sitting) (crew : List (Result Worker E)) : Type 0 where
  pub many : length crew ≡ length seats
  pub each : (k : ℕ) (d : Sitting) (e : Result Worker E) → k < length seats
      → IfOk (slice_index_or crew k e) (Leaves plan moments base (slice_index_or seats k d))

-- all had memory; and these are their seats, all of their replies, and the replica of one of them
pub record ArePartsOf {E : Type 0} (crew : List (Result Worker E)) (their_seats : List Sitting)
    (all_replies : List Answered) (one : Taken) : Type 0 where
  pub workers : List Worker
  pub are : crew ≡ map Ok workers
  pub seats : their_seats ≡ map (λ worker. worker.seat) workers
  pub replies : all_replies ≡ flat_map (λ worker. worker.replies) workers
  pub replica : Any (λ worker. worker.replica ≡ one) workers

-- the crew of a board of the plan, which is closed over the base: a worker for each seat
pub record IsCrew {E : Type 0} (plan : Plan) (moments : Moments) (base : List Row) (z : Site)
    (crew : List (Result Worker E)) : Type 0 where
  pub some : 0 < z.workers
  pub few : z.workers ≤ MAX_WORKERS
  pub schedule : z.schedule ≡ schedule_of plan
  pub graph : IsGraph base
  pub closed : IsClosed (HoldsKey base) (updates_in plan)
  pub seats : List Sitting
  pub made : AreSeats z seats
  pub all : AllLeave plan moments base seats crew
