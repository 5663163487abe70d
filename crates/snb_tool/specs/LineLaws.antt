-- Which operations the lines of the streams are.
use Rattle.std.specs.Prelude.{◌≡◌, ℕ, ◌-◌, ◌⊎◌, List, Contains, length, slice_get, Some}
use Rattle.snb_input_files.specs.Walk.{Held}
use Rattle.snb_loader.specs.Lanes.{AreLanes}
use Rattle.snb_loader.specs.Params.{AreParams}
use Rattle.snb_plan.specs.declared.instances.Instance.{Instance}
use Rattle.snb_plan.specs.Plans.{Operation, Plan, first_t, read_operation, update_operation}
use Rattle.snb_plan.specs.Merging.{AreUpdates, IsInTurn, IsInstance, IsLineHere as IsLineIn, PlacedLine}
use Rattle.snb_schema.specs.declared.query.Query.{Query}
use Rattle.snb_schema.specs.LineLanes.{LineLanes}
use Rattle.snb_schema.specs.QueryLists.{QueryLists}
use Rattle.snb_schema.specs.Frequencies.{FrequencyTable}
use Rattle.snb_tool_outcome.specs.Inputs.{ArePlanned, after_dataset, after_streams}

-- an element stands at one place of a list, and at no other
pub record StandsOnce {X : Type 0} (xs : List X) (x : X) : Type 0 where
  pub place : ℕ
  pub there : slice_get xs place ≡ Some x
  pub alone : (other : ℕ) → slice_get xs other ≡ Some x → other ≡ place

-- the operation is a read that the frequencies ask: one goes with the update of a number that is so
-- many times the frequency of its query, and takes its parameters from the list in turn
pub record IsAskedRead (lanes : LineLanes) (lists : QueryLists) (ratio t0 : ℕ)
    (frequencies : FrequencyTable) (updates : List PlacedLine) (o : Operation) : Type 0 where
  pub place : ℕ
  pub instance : Instance
  pub with : PlacedLine
  pub query : Query
  pub frequent : IsInstance frequencies (length updates) instance
  pub goes_with : slice_get updates (instance.at - 1) ≡ Some with
  pub asked : IsInTurn lists instance query
  pub is : o ≡ read_operation lanes ratio t0 place with.line.t query

-- the operations of a plan of files: the lines of the streams are its lanes; each line is one
-- operation, no two lines are the same one, and each operation is that of a line, or a read that
-- the frequencies ask
pub record HasEachLine (held : Held) (ratio : ℕ) (frequencies : FrequencyTable) (plan : Plan)
    : Type 0 where
  pub lanes : LineLanes
  pub lists : QueryLists
  pub streams : AreLanes (after_dataset held) held lanes
  pub params : AreParams (after_streams held) held frequencies lists
  pub updates : List PlacedLine
  pub merged : AreUpdates lanes updates
  pub each_line : (p : PlacedLine) → IsLineIn lanes p
      → StandsOnce plan.operations (update_operation lanes ratio (first_t plan.operations) p)
  pub apart :
      (p q : PlacedLine) → IsLineIn lanes p → IsLineIn lanes q
      → update_operation lanes ratio (first_t plan.operations) p
      ≡ update_operation lanes ratio (first_t plan.operations) q → p ≡ q
  pub each_operation :
      (o : Operation) → Contains plan.operations o
      → ((p : PlacedLine) × IsLineIn lanes p
      × (o ≡ update_operation lanes ratio (first_t plan.operations) p))
      ⊎ IsAskedRead lanes lists ratio (first_t plan.operations) frequencies updates o

-- so it is with each plan of files
abbrev pub LinesAreOperations : Type 0
LinesAreOperations =
    (held : Held) (ratio : ℕ) (frequencies : FrequencyTable) (plan : Plan)
    → ArePlanned held ratio frequencies plan → HasEachLine held ratio frequencies plan
