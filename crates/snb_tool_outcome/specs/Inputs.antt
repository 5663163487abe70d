-- What each command tries of its files, in order.
use Rattle.std.specs.Prelude.{◌≡◌, ℕ, ◌<◌, Bool, true, false, List, [], ◌∷◌, ◌++◌, Option, None, Some}
use Rattle.snb_base.specs.Shelf.{Files}
use Rattle.snb_audit_model.specs.LogFiles.{log_checks}
use Rattle.snb_validation_model.specs.CasesFile.{cases_checks}
use Rattle.snb_base.specs.FirstOf.{FirstOf, NoneOf}
use Rattle.snb_input_files.specs.Walk.{Before, Held}
use Rattle.snb_loader.specs.Dataset.{IsDataset, after_tables, dataset_checks}
use Rattle.snb_loader.specs.Lanes.{AreLanes, after_lanes, lane_checks, next_stage}
use Rattle.snb_loader.specs.Params.{AreParams, params_checks}
use Rattle.snb_plan.specs.Closed.{IsClosed, IsFirstWrong}
use Rattle.snb_plan.specs.Plans.{IsPlan, Plan, updates_in}
use Rattle.snb_plan.specs.Merging.{read_count}
use Rattle.snb_schema.specs.declared.limits.TheConstants.{MAX_READS}
use Rattle.snb_schema.specs.declared.query.ReadKind.{ReadKind}
use Rattle.snb_schema.specs.declared.refusal.Counted.TheVariants.{Reads}
use Rattle.snb_schema.specs.declared.refusal.Refusal.{Refusal}
use Rattle.snb_schema.specs.declared.refusal.Refusal.TheVariants.{TooMany, Unregistered}
use Rattle.snb_schema.specs.declared.row.Row.{Row}
use Rattle.snb_schema.specs.Frequencies.{FrequencyTable}
use Rattle.snb_schema.specs.LineLanes.{LineLanes, update_count}
use Rattle.snb_schema.specs.QueryLists.{QueryLists}
use Rattle.snb_graph_model.specs.Graphs.{HoldsKey}
use Rattle.snb_tool_words.specs.declared.command.Command.{Command}
use Rattle.snb_tool_words.specs.declared.command.Command.TheVariants.{Audit, Check, Expect, Latency, Run, Read, Trial, Validate, Walk}
use Rattle.snb_tool_words.specs.CommandFacts.{needs_table}
use Rattle.snb_ratio.specs.Ratios.{real_time}
use Rattle.snb_tool_outcome.specs.Found.{Found, Given, IsFoundTold}

-- before the first file nothing is read
abbrev pub at_first : Before
at_first = record { bytes = 0; rows = 0; past = [] }

-- what was read after the tables, where the streams begin, and after these, where the parameter
-- files begin
abbrev pub after_dataset : Held → Before
after_dataset held = next_stage (after_tables at_first held)

abbrev pub after_streams : Held → Before
after_streams held = next_stage (after_lanes (after_dataset held) held)

-- the files are the streams of these lanes and, for these frequencies, the parameter files of these
-- lists; and this is their plan under the ratio in millionths
pub record ArePlanned (held : Held) (ratio : ℕ) (frequencies : FrequencyTable) (plan : Plan)
    : Type 0 where
  pub lanes : LineLanes
  pub lists : QueryLists
  pub streams : AreLanes (after_dataset held) held lanes
  pub params : AreParams (after_streams held) held frequencies lists
  pub is_plan : IsPlan lanes lists frequencies ratio plan

-- there are more reads than there may be
pub record AreTooMany (held : Held) (frequencies : FrequencyTable) (r : Refusal) : Type 0 where
  pub lanes : LineLanes
  pub streams : AreLanes (after_dataset held) held lanes
  pub many : MAX_READS < read_count frequencies (update_count lanes)
  pub refused : r ≡ TooMany Reads

-- the updates aren't closed over the dataset, and the first with which something is wrong is
-- refused so
pub record IsNotClosed (held : Held) (ratio : ℕ) (frequencies : FrequencyTable) (r : Refusal)
    : Type 0 where
  pub graph : List Row
  pub plan : Plan
  pub dataset : IsDataset at_first held graph
  pub planned : ArePlanned held ratio frequencies plan
  pub wrong : IsFirstWrong (HoldsKey graph) (updates_in plan) r

-- what is tried of a plan's files, in order
abbrev pub plan_checks : ℕ → FrequencyTable → Held → List {1} (Refusal → Type 0)
plan_checks ratio frequencies held =
    dataset_checks at_first held
    ++ (lane_checks (after_dataset held) held
    ++ (params_checks (after_streams held) held frequencies ++ AreTooMany held frequencies
    ∷ IsNotClosed held ratio frequencies ∷ []))

-- the tables have this graph, over which the file of cases is refused so
pub record AreBadCases (held : Held) (beside : Option (List ℕ)) (r : Refusal) : Type 0 where
  pub graph : List Row
  pub dataset : IsDataset at_first held graph
  pub refused : FirstOf (cases_checks graph beside) r

-- what a command tries of what it reads, in order; a trial reads nothing that could be wrong
abbrev pub read_checks : Command → Found → List {1} (Refusal → Type 0)
read_checks (Check folder frequencies) found = plan_checks real_time frequencies found.held
read_checks (Run folder workers ratio frequencies) found = plan_checks ratio frequencies found.held
read_checks (Audit folder log ratio frequencies) found =
    plan_checks ratio frequencies found.held ++ log_checks found.beside
read_checks (Latency folder log ratio frequencies) found =
    plan_checks ratio frequencies found.held ++ log_checks found.beside
read_checks (Expect folder frequencies) found = plan_checks real_time frequencies found.held
read_checks (Validate folder cases via) found =
    dataset_checks at_first found.held ++ AreBadCases found.held found.beside ∷ []
read_checks (Read folder query) found = dataset_checks at_first found.held
read_checks (Walk folder query chance words) found = dataset_checks at_first found.held
read_checks (Trial size workers) found = []

-- a kind of read has no handler, and is refused so
abbrev pub IsUnregistered : Option ReadKind → Refusal → Type 0
IsUnregistered None r = ⊥
IsUnregistered (Some kind) r = r ≡ Unregistered kind

-- what is tried where a table is asked: whether each kind of read has a handler in it
abbrev pub table_checks : Bool → Option ReadKind → List {1} (Refusal → Type 0)
table_checks false missing = []
table_checks true missing = IsUnregistered missing ∷ []

-- what a command tries of what it finds, in order: the table that it asks, before any reading, and
-- then what it reads
abbrev pub checks_of : Command → Found → List {1} (Refusal → Type 0)
checks_of command found =
    table_checks (needs_table command) found.missing ++ read_checks command found

-- nothing is wrong with what a command finds, whatever of it the shelf doesn't tell
abbrev pub IsSurelyFine : Option Files → Given → Command → Type 0
IsSurelyFine contents given command =
    (found : Found) → IsFoundTold contents given command found → NoneOf (checks_of command found)

-- and this is wrong with it first
abbrev pub IsSurelyRefused : Option Files → Given → Command → Refusal → Type 0
IsSurelyRefused contents given command r =
    (found : Found) → IsFoundTold contents given command found → FirstOf (checks_of command found) r

-- nothing is wrong with the files of a plan, and these are their dataset and the plan
pub record IsInput (held : Held) (ratio : ℕ) (frequencies : FrequencyTable) (graph : List Row)
    (plan : Plan) : Type 0 where
  pub dataset : IsDataset at_first held graph
  pub planned : ArePlanned held ratio frequencies plan
  pub closed : IsClosed (HoldsKey graph) (updates_in plan)
