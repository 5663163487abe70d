-- What a run leaves.
use Rattle.std.specs.Prelude.{◌≡◌, ℕ, ◌+◌, ◌≤◌, List, [], length, None}
use Rattle.snb_base.specs.Moments.{Moments}
use Rattle.snb_base.specs.Outbox.{Written}
use Rattle.snb_input_files.specs.Walk.{Held}
use Rattle.snb_plan.specs.Plans.{IsPlan, Plan, queries_in, updates_in}
use Rattle.snb_workers_replay.specs.Replay.{all_rows}
use Rattle.snb_history.specs.declared.event.Event.{Event}
use Rattle.snb_schema.specs.declared.limits.TheConstants.{MAX_BYTES}
use Rattle.snb_schema.specs.declared.row.Row.{Row}
use Rattle.snb_schema.specs.Frequencies.{FrequencyTable}
use Rattle.snb_history.specs.RunTexts.{header_of, log_text}
use Rattle.snb_runlog.specs.Laws.{ReadsBack}
use Rattle.snb_schema.specs.ScreenTexts.{summary_text}
use Rattle.snb_graph_model.specs.FinalText.{final_text}
use Rattle.snb_tool_texts.specs.Answers.{answers_text}
use Rattle.snb_trial.specs.Trial.{dataset, lanes, least_ratio, lists, read_frequencies}
use Rattle.snb_replica.specs.Counts.{logged_of}
use Rattle.snb_audit_model.specs.Miscounts.{IsFirstMiscount}
use Rattle.snb_answered.specs.declared.done.Answered.{Answered}
use Rattle.snb_replica.specs.Runs.{HasRun}
use Rattle.snb_tool_outcome.specs.Inputs.{IsInput}

-- the summary of a run of a plan over a dataset: how many operations, updates and reads there were,
-- and how many rows the final graph has
abbrev pub summary_of : List Row → Plan → List ℕ
summary_of base plan =
    summary_text (length plan.operations) (length (updates_in plan)) (length (queries_in plan))
    (length base + length (all_rows plan))

-- the four texts of a run of a plan over a dataset, with this history, these replies, whose rows
-- the log counts, and this final graph
abbrev pub run_texts : ℕ → List Row → Plan → List Event → List Answered → List Row → Written
run_texts workers base plan h replies final = record {
  screen = summary_of base plan;
  log = log_text workers (length plan.operations) (logged_of replies h);
  answers = answers_text replies;
  finals = final_text final;
  cases = [];
}

-- what a run of a plan by so many workers over a dataset leaves: no count of rows in its log is
-- wrong; the log is read as what it was written of, and in no other way; and it is no longer than
-- one may be that is read
pub record LeavesTexts (workers : ℕ) (graph : List Row) (plan : Plan) (moments : Moments)
    (texts : Written) : Type 0 where
  pub history : List Event
  pub replies : List Answered
  pub final : List Row
  pub ran : HasRun workers plan moments graph history replies final
  pub counted : IsFirstMiscount graph plan (logged_of replies history) None
  pub read_back : ReadsBack (header_of workers (length plan.operations)) (logged_of replies history)
  pub fits : length (log_text workers (length plan.operations) (logged_of replies history))
      ≤ MAX_BYTES
  pub shown : texts ≡ run_texts workers graph plan history replies final

-- nothing is wrong with the files, and the texts are what a run of their plan leaves
pub record IsRun (held : Held) (workers ratio : ℕ) (frequencies : FrequencyTable)
    (moments : Moments) (texts : Written) : Type 0 where
  pub graph : List Row
  pub plan : Plan
  pub input : IsInput held ratio frequencies graph plan
  pub left : LeavesTexts workers graph plan moments texts

-- the texts are what a run by so many workers leaves of the formula workload of a size: of the plan
-- of its lanes and lists over its dataset
pub record IsTried (size workers : ℕ) (moments : Moments) (texts : Written) : Type 0 where
  pub plan : Plan
  pub is_plan : IsPlan (lanes size) (lists size) read_frequencies least_ratio plan
  pub left : LeavesTexts workers dataset plan moments texts
