-- What commands that run or audit a plan answer before they write. Cited by contracts of functions
-- of the tool alone.
use Rattle.std.specs.Prelude.{◌≡◌, ℕ, ◌<◌, ◌≤◌, ◌⊎◌, List, [], ◌++◌, length, Option, Result, Ok, Err}
use Rattle.snb_audit_model.specs.LogFiles.{log_checks}
use Rattle.snb_base.specs.Outbox.{Written}
use Rattle.snb_base.specs.Shelf.{Files}
use Rattle.snb_base.specs.FirstOf.{FirstOf, NoneOf}
use Rattle.snb_input_files.specs.Loading.{IsTold}
use Rattle.snb_input_files.specs.Walk.{Held, IsHeldTold}
use Rattle.snb_input_files.specs.declared.load.Load.{Load}
use Rattle.snb_input_files.specs.declared.load.Load.TheVariants.{Refused, ReadFault, Memory}
use Rattle.snb_schema.specs.declared.limits.TheConstants.{MAX_READS}
use Rattle.snb_schema.specs.declared.refusal.Counted.TheVariants.{Reads}
use Rattle.snb_schema.specs.declared.refusal.Refusal.{Refusal}
use Rattle.snb_schema.specs.declared.refusal.Refusal.TheVariants.{TooMany}
use Rattle.snb_schema.specs.declared.row.Row.{Row}
use Rattle.snb_schema.specs.Frequencies.{FrequencyTable}
use Rattle.snb_schema.specs.LineLanes.{LineLanes, update_count}
use Rattle.snb_schema.specs.QueryLists.{QueryLists}
use Rattle.snb_history.specs.RunTexts.{log_text}
use Rattle.snb_schema.specs.ScreenTexts.{summary_text}
use Rattle.snb_graph_model.specs.FinalText.{final_text}
use Rattle.snb_graph_model.specs.Graphs.{HoldsKey}
use Rattle.snb_tool_texts.specs.Answers.{answers_text}
use Rattle.snb_plan.specs.Closed.{IsClosed, IsFirstWrong}
use Rattle.snb_plan.specs.Plans.{IsPlan, Plan, queries_in, updates_in}
use Rattle.snb_plan.specs.Merging.{read_count}
use Rattle.snb_replica.specs.Counts.{logged_of}
use Rattle.snb_replica.specs.declared.outcome.Outcome.{Outcome as RunOutcome}
use Rattle.snb_tool_outcome.specs.declared.judged.Judged.{Judged}
use Rattle.snb_tool_outcome.specs.declared.input.Input.{Input}
use Rattle.snb_graph_model.specs.Soundness.{Sound}
use Rattle.snb_trial.specs.Trial.{dataset, lanes, least_ratio, lists, read_frequencies}
use Rattle.snb_tool_outcome.specs.Inputs.{IsInput, plan_checks}
use Rattle.snb_tool_outcome.specs.LogsDone.{IsJudgedLog}

-- nothing is wrong with the files of a plan, and these are their dataset and the plan
pub record IsLoaded (held : Held) (ratio : ℕ) (frequencies : FrequencyTable) (input : Input)
    : Type 0 where
  pub clean : NoneOf (plan_checks ratio frequencies held)
  pub is : IsInput held ratio frequencies input.graph input.plan

-- of lanes, lists, frequencies and a ratio this is the plan, which has no more reads than there may
-- be and is closed over the graph
pub record IsMade (graph : List Row) (lanes : LineLanes) (lists : QueryLists)
    (frequencies : FrequencyTable) (ratio : ℕ) (input : Input) : Type 0 where
  pub same : input.graph ≡ graph
  pub is_plan : IsPlan lanes lists frequencies ratio input.plan
  pub few : read_count frequencies (update_count lanes) ≤ MAX_READS
  pub closed : IsClosed (HoldsKey graph) (updates_in input.plan)

-- their plan isn't closed over the graph, and the first update with which something is wrong is
-- refused so
pub record IsOpen (graph : List Row) (lanes : LineLanes) (lists : QueryLists)
    (frequencies : FrequencyTable) (ratio : ℕ) (r : Refusal) : Type 0 where
  pub plan : Plan
  pub is_plan : IsPlan lanes lists frequencies ratio plan
  pub few : read_count frequencies (update_count lanes) ≤ MAX_READS
  pub wrong : IsFirstWrong (HoldsKey graph) (updates_in plan) r

-- what the making of an input of what was read answers
abbrev pub IsMadeAnswer : List Row → LineLanes → QueryLists → FrequencyTable → ℕ → Result Input Load
    → Type 0
IsMadeAnswer graph lanes lists frequencies ratio (Ok input) =
    IsMade graph lanes lists frequencies ratio input
IsMadeAnswer graph lanes lists frequencies ratio (Err (Refused r)) =
    ((r ≡ TooMany Reads) × (MAX_READS < read_count frequencies (update_count lanes)))
    ⊎ IsOpen graph lanes lists frequencies ratio r
IsMadeAnswer graph lanes lists frequencies ratio (Err ReadFault) = ⊥
IsMadeAnswer graph lanes lists frequencies ratio (Err Memory) = Unit {0}

-- what the loading of a plan's input answers
abbrev pub IsInputAnswer : Option Files → List ℕ → ℕ → FrequencyTable → Result Input Load → Type 0
IsInputAnswer contents folder ratio frequencies (Ok input) =
    (held : Held) × IsHeldTold contents folder held × IsLoaded held ratio frequencies input
IsInputAnswer contents folder ratio frequencies (Err (Refused r)) =
    (held : Held) × IsHeldTold contents folder held × FirstOf (plan_checks ratio frequencies held) r
IsInputAnswer contents folder ratio frequencies (Err ReadFault) = Unit {0}
IsInputAnswer contents folder ratio frequencies (Err Memory) = Unit {0}

-- the dataset and a plan of the formula workload of a size, which is closed over it
pub record IsTrialInput (size : ℕ) (input : Input) : Type 0 where
  pub same : input.graph ≡ dataset
  pub is_plan : IsPlan (lanes size) (lists size) read_frequencies least_ratio input.plan
  pub closed : IsClosed (HoldsKey input.graph) (updates_in input.plan)
  pub sound : Sound input.graph

-- the texts of what a run by so many workers leaves, where the plan has so many operations, updates
-- and reads
abbrev pub AreTexts : ℕ → Plan → RunOutcome → Written → Type 0
AreTexts workers plan o texts = texts ≡ record {
  screen = summary_text (length plan.operations) (length (updates_in plan))
      (length (queries_in plan)) (length o.graph);
  log = log_text workers (length plan.operations) (logged_of o.replies o.events);
  answers = answers_text o.replies;
  finals = final_text o.graph;
  cases = [];
}

-- what is tried for an audit and for latencies, in order: the files of the plan, then the log
abbrev pub audit_checks : ℕ → FrequencyTable → Held → Option (List ℕ) → List {1} (Refusal → Type 0)
audit_checks ratio frequencies held beside = plan_checks ratio frequencies held ++ log_checks beside

-- what the judging of a log answers: there are files of a plan and a log, which are those that the
-- shelf tells where it tells any, of which nothing is wrong, and these are their plan, what the log
-- says, and the verdict on it; or which are refused so
abbrev pub IsJudgedAnswer : Option Files → List ℕ → List ℕ → ℕ → FrequencyTable → Result Judged Load
    → Type 0
IsJudgedAnswer contents folder log ratio frequencies (Ok j) =
    (held : Held)
    × (beside : Option (List ℕ))
    × IsHeldTold contents folder held
    × IsTold contents log beside
    × NoneOf (audit_checks ratio frequencies held beside)
    × IsJudgedLog held beside ratio frequencies j.plan j.audited.log.header
    j.audited.log.logged.items j.audited.verdict
IsJudgedAnswer contents folder log ratio frequencies (Err (Refused r)) =
    (held : Held)
    × (beside : Option (List ℕ))
    × IsHeldTold contents folder held
    × IsTold contents log beside
    × FirstOf (audit_checks ratio frequencies held beside) r
IsJudgedAnswer contents folder log ratio frequencies (Err ReadFault) = Unit {0}
IsJudgedAnswer contents folder log ratio frequencies (Err Memory) = Unit {0}
