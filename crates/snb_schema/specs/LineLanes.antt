-- The lines of the update streams, lane by lane.
use Rattle.std.specs.Prelude.{ℕ, ◌≤◌, ◌++◌, List, length, sum_by}
use Rattle.snb_schema.specs.declared.limits.TheConstants.{MAX_LANES}
use Rattle.snb_schema.specs.declared.op.Line.{Line}

-- the lines of each lane of persons, and of each lane of the other inserts
pub record LineLanes : Type 0 where
  pub persons : List (List Line)
  pub forums : List (List Line)

-- how many updates there are: as many as lines of all lanes
abbrev pub update_count : LineLanes → ℕ
update_count lanes = sum_by (λ (lines : List Line). length lines) (lanes.persons ++ lanes.forums)

-- there are at most so many lanes of each kind
pub record AreFew (lanes : LineLanes) : Type 0 where
  pub persons : length lanes.persons ≤ MAX_LANES
  pub forums : length lanes.forums ≤ MAX_LANES
