-- A plan as the scheduler sees it.
use Rattle.std.specs.Prelude.{◌≡◌, ℕ, ◌+◌, ◌*◌, ◌<◌, ◌≤◌, ◌==◌, ◌⊎◌, List, length, take, count_by, Bool, true, false, Some, slice_get, slice_index, slice_index_or, Contains, ◌↔◌}
use Rattle.std.specs.List.Sorted.{IsStrictlyIncreasing}
use Rattle.snb_history.specs.declared.step.Step.{Step}
use Rattle.snb_history.specs.declared.step.LaneKind.{LaneKind}
use Rattle.snb_history.specs.declared.step.LaneKind.TheVariants.{Forum, Query}
use Rattle.snb_schema.specs.declared.limits.TheConstants.{MAX_AT, MAX_LANES, MAX_READS, MAX_ROWS, MAX_TIME}

-- the operations in the order of their numbers, and the kind of each lane
pub record Schedule : Type 0 where
  pub steps : List Step
  pub kinds : List LaneKind

-- the step that is read at a number that is no operation
abbrev pub no_step : Step
no_step =
    record {
      lane = 0;
      place = 0;
      t = 0;
      t_d = 0;
      due = 0;
      dependency = false;
      dependent = false;
      query = false;
    }

-- the step of an operation
abbrev pub step_of : Schedule → ℕ → Step
step_of s k = slice_index_or s.steps k no_step

-- k is the number of an operation
abbrev pub IsOperation : Schedule → ℕ → Type 0
IsOperation s k = k < length s.steps

-- j stands before k in k's lane: numbers rise along a lane
abbrev pub IsBefore : Schedule → ℕ → ℕ → Type 0
IsBefore s j k = (j < k) × ((step_of s j).lane ≡ (step_of s k).lane)

-- dependents may wait for operation k
abbrev pub is_dependency : Schedule → ℕ → Bool
is_dependency s k = (step_of s k).dependency

-- operation k stands in a forum lane
abbrev pub IsInForum : Schedule → ℕ → Type 0
IsInForum s k = slice_get s.kinds (step_of s k).lane ≡ Some Forum

-- operations are numbered by their t, due times rise with them, and each dependent's t_d lies below
-- its t
pub record IsTimely (s : Schedule) : Type 0 where
  pub numbered : (j k : ℕ) → j ≤ k → k < length s.steps → (step_of s j).t ≤ (step_of s k).t
  pub due_rises : (j k : ℕ) → j ≤ k → k < length s.steps → (step_of s j).due ≤ (step_of s k).due
  pub below : (k : ℕ) → (step_of s k).dependent ≡ true → (step_of s k).t_d < (step_of s k).t

-- along a lane places rise with numbers
pub record IsPlaced (s : Schedule) : Type 0 where
  pub rises : (j k : ℕ) → j < k → k < length s.steps → (step_of s j).lane ≡ (step_of s k).lane
      → (step_of s j).place < (step_of s k).place

-- these are the numbers of the lane's operations, rising, each at its place
pub record IsLane (s : Schedule) (lane : ℕ) (numbers : List ℕ) : Type 0 where
  pub rising : IsStrictlyIncreasing numbers
  pub theirs : (k : ℕ) → Contains numbers k ↔ (IsOperation s k × ((step_of s k).lane ≡ lane))
  pub placed : (i : ℕ) → i < length numbers → (step_of s (slice_index numbers i)).place ≡ i

-- the one step comes before the other: by t, then by lane, then by place
abbrev pub ComesBefore : Step → Step → Type 0
ComesBefore one other =
    (one.t < other.t)
    ⊎ ((one.t ≡ other.t)
    × ((one.lane < other.lane) ⊎ ((one.lane ≡ other.lane) × (one.place < other.place))))

-- how many of the steps before number k stand in the lane
abbrev pub count_before : Schedule → ℕ → ℕ → ℕ
count_before s lane k = count_by (λ step. step.lane == lane) (take k s.steps)

-- the most lanes of a plan: those of persons, those of the other inserts, and the lane of reads
abbrev pub max_lanes : ℕ
max_lanes = 2 * MAX_LANES + 1

-- the most operations of a plan: its inserts and its reads
abbrev pub max_steps : ℕ
max_steps = MAX_ROWS + MAX_READS

-- what is true of the steps and kinds of every schedule: its limits, and the order and lanes of its
-- steps
pub record IsPlanned (s : Schedule) : Type 0 where
  pub few_lanes : length s.kinds ≤ max_lanes
  pub few_steps : length s.steps ≤ max_steps
  pub in_lanes : (k : ℕ) → IsOperation s k → (step_of s k).lane < length s.kinds
  pub ordered : (j k : ℕ) → j < k → IsOperation s k → ComesBefore (step_of s j) (step_of s k)
  pub placed : (k : ℕ) → IsOperation s k → (step_of s k).place ≡ count_before s (step_of s k).lane k
  pub due_rises : (j k : ℕ) → j < k → IsOperation s k → (step_of s j).due ≤ (step_of s k).due
  pub timed : (k : ℕ) → IsOperation s k → (step_of s k).t ≤ MAX_TIME
  pub needs_timed : (k : ℕ) → IsOperation s k → (step_of s k).t_d ≤ MAX_TIME
  pub due_timed : (k : ℕ) → IsOperation s k → (step_of s k).due ≤ MAX_AT
  pub reads : (k : ℕ) → IsOperation s k
      → ((step_of s k).query ≡ true) ↔ (slice_get s.kinds (step_of s k).lane ≡ Some Query)
