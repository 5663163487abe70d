-- Laws of what a folder is refused for, and of what is read of it.
use Rattle.std.specs.Prelude.{◌≡◌, List}
use Rattle.snb_schema.specs.declared.refusal.Refusal.{Refusal}
use Rattle.snb_schema.specs.declared.row.Row.{Row}
use Rattle.snb_schema.specs.Frequencies.{FrequencyTable}
use Rattle.snb_schema.specs.LineLanes.{LineLanes}
use Rattle.snb_schema.specs.QueryLists.{QueryLists}
use Rattle.snb_base.specs.FirstOf.{FirstOf, NoneOf}
use Rattle.snb_input_files.specs.Walk.{Before, Held}
use Rattle.snb_loader.specs.Dataset.{IsDataset, dataset_checks}
use Rattle.snb_loader.specs.Lanes.{AreLanes, lane_checks}
use Rattle.snb_loader.specs.Params.{AreParams, params_checks}

-- these checks give one refusal at most, and none where nothing is wrong
pub record RefuseOnce (checks : List {1} (Refusal → Type 0)) : Type 0 where
  pub one : (r q : Refusal) → FirstOf checks r → FirstOf checks q → r ≡ q
  pub or_not : (r : Refusal) → FirstOf checks r → ¬ NoneOf checks

-- a dataset is refused in one way at most, or not
abbrev pub DatasetRefusesOnce : Type 0
DatasetRefusesOnce = (at : Before) (held : Held) → RefuseOnce (dataset_checks at held)

-- and has one graph at most
abbrev pub DatasetIsOne : Type 0
DatasetIsOne =
    (at : Before) (held : Held) (g h : List Row) → IsDataset at held g → IsDataset at held h → g ≡ h

-- the streams are refused in one way at most, or not
abbrev pub LanesRefuseOnce : Type 0
LanesRefuseOnce = (at : Before) (held : Held) → RefuseOnce (lane_checks at held)

-- and they are the same lanes
abbrev pub LanesAreOne : Type 0
LanesAreOne =
    (at : Before) (held : Held) (a b : LineLanes) → AreLanes at held a → AreLanes at held b → a ≡ b

-- the parameter files are refused in one way at most, or not
abbrev pub ParamsRefuseOnce : Type 0
ParamsRefuseOnce =
    (at : Before) (held : Held) (table : FrequencyTable) → RefuseOnce (params_checks at held table)

-- and they are the same lists
abbrev pub ParamsAreOne : Type 0
ParamsAreOne =
    (at : Before) (held : Held) (table : FrequencyTable) (a b : QueryLists)
    → AreParams at held table a → AreParams at held table b → a ≡ b
