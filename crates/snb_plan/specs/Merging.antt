-- The lanes of streams, their lines in order, and which of them reads go with.
use Rattle.std.specs.Prelude.{◌≡◌, ℕ, ◌-◌, ◌*◌, ◌/◌, ◌%◌, ◌<◌, ◌≤◌, ◌==◌, ◌⊎◌, ◌↔◌, if◌then◌else◌, nat_lt, Some, List, [], ◌∷◌, ◌++◌, AllPairs, Contains, length, map, slice_get, slice_index_or, sum_by}
use Rattle.snb_schema.specs.declared.file.FileId.{FileId}
use Rattle.snb_schema.specs.declared.file.FileKind.TheVariants as files
use Rattle.snb_schema.specs.declared.op.Line.{Line}
use Rattle.snb_schema.specs.declared.query.Query.{Query}
use Rattle.snb_history.specs.declared.step.LaneKind.{LaneKind}
use Rattle.snb_history.specs.declared.step.LaneKind.TheVariants as lane_kinds
use Rattle.snb_schema.specs.Frequencies.{FrequencyTable, frequency_at}
use Rattle.snb_schema.specs.LineLanes.{LineLanes}
use Rattle.snb_schema.specs.QueryLists.{QueryLists, list_of}
use Rattle.snb_schema.specs.Queries.{complex_queries}
use Rattle.snb_plan.specs.declared.instances.Instance.{Instance}

-- the elements of the list are those with the property, each once, in this order
pub record AreInOrder {X : Type 0} (before : X → X → Type 0) (P : X → Type 0) (xs : List X)
    : Type 0 where
  pub ordered : AllPairs before xs
  pub those : (x : X) → Contains xs x ↔ P x

-- the lanes of lines by their numbers: those of persons, and after them the forum lanes
abbrev pub numbered_lanes : LineLanes → List (List Line)
numbered_lanes lanes = lanes.persons ++ lanes.forums

-- the lane of the reads is the next
abbrev pub read_lane : LineLanes → ℕ
read_lane lanes = length (numbered_lanes lanes)

-- the lines of the lane of a number
abbrev pub lane_of : LineLanes → ℕ → List Line
lane_of lanes lane = slice_index_or (numbered_lanes lanes) lane []

-- the kind of each lane
abbrev pub kinds_of : LineLanes → List LaneKind
kinds_of lanes =
    map (λ _. lane_kinds.Person) lanes.persons ++ map (λ _. lane_kinds.Forum) lanes.forums
    ++ lane_kinds.Query ∷ []

-- the stream that a lane is read from
abbrev pub file_of : LineLanes → ℕ → FileId
file_of lanes lane =
    if nat_lt lane (length lanes.persons)
    then record { kind = files.PersonStream; part = lane }
    else record { kind = files.ForumStream; part = lane - length lanes.persons }

-- a line, and where it stands: the number of its lane, and its place there, from 0
pub record PlacedLine : Type 0 where
  pub lane : ℕ
  pub place : ℕ
  pub line : Line

-- the line stands there
pub record IsLineHere (lanes : LineLanes) (p : PlacedLine) : Type 0 where
  pub in_lanes : p.lane < length (numbered_lanes lanes)
  pub here : slice_get (lane_of lanes p.lane) p.place ≡ Some p.line

-- by t, then by lane, then by place
abbrev pub IsEarlier : PlacedLine → PlacedLine → Type 0
IsEarlier one other =
    (one.line.t < other.line.t)
    ⊎ ((one.line.t ≡ other.line.t) ×
    ((one.lane < other.lane) ⊎ ((one.lane ≡ other.lane) × (one.place < other.place))))

-- all lines of all lanes in merged order
abbrev pub AreUpdates : LineLanes → List PlacedLine → Type 0
AreUpdates lanes updates = AreInOrder IsEarlier (IsLineHere lanes) updates

-- the query has a frequency, and the instance of this turn goes with the update of a number that is
-- so many times the frequency
pub record IsInstance (frequencies : FrequencyTable) (count : ℕ) (i : Instance) : Type 0 where
  pub frequent : 0 < frequency_at frequencies i.query
  pub turns : 1 ≤ i.turn
  pub at : i.at ≡ i.turn * frequency_at frequencies i.query
  pub within : i.at ≤ count

-- by the update that they go with, then by query
abbrev pub IsSooner : Instance → Instance → Type 0
IsSooner one other = (one.at < other.at) ⊎ ((one.at ≡ other.at) × (one.query < other.query))

-- all instances that go with the updates, in the order of the read lane
abbrev pub AreReads : FrequencyTable → ℕ → List Instance → Type 0
AreReads frequencies count reads = AreInOrder IsSooner (IsInstance frequencies count) reads

-- how many instances of a frequency go with so many updates
abbrev pub share : ℕ → ℕ → ℕ
share count frequency = if frequency == 0 then 0 else count / frequency

-- and how many of all queries together
abbrev pub read_count : FrequencyTable → ℕ → ℕ
read_count frequencies count =
    sum_by (λ q. share count (frequency_at frequencies q)) complex_queries

-- the parameters are taken in turn, and from the start again when they are used up
abbrev pub IsInTurn : QueryLists → Instance → Query → Type 0
IsInTurn lists i query =
    slice_get (list_of lists i.query) ((i.turn - 1) % length (list_of lists i.query)) ≡ Some query
