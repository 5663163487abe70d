-- What each command leaves that is done: its status and its texts.
use Rattle.std.specs.Prelude.{◌≡◌, ℕ, List, [], length, Option}
use Rattle.snb_base.specs.Moments.{Moments}
use Rattle.snb_base.specs.Outbox.{Written}
use Rattle.snb_validation_cases.specs.declared.case.Case.{Case}
use Rattle.snb_validation_model.specs.declared.tally.Tally.{Tally}
use Rattle.snb_validation_model.specs.CasesFile.{IsTally}
use Rattle.snb_validation_model.specs.CheckTexts.{tally_status, tally_text}
use Rattle.snb_input_files.specs.Walk.{Held}
use Rattle.snb_loader.specs.Dataset.{IsDataset}
use Rattle.snb_validation_model.specs.CaseTexts.{cases_text, case_count_text}
use Rattle.snb_validation_model.specs.Expected.{AreExpected, AreReadBack}
use Rattle.snb_plan.specs.Plans.{IsOfStreams, Plan, queries_in, updates_in}
use Rattle.snb_read_model.specs.Cells.{ByteCell}
use Rattle.snb_read_model.specs.Replies.{IsReply}
use Rattle.snb_schema.specs.declared.query.Query.{Query}
use Rattle.snb_schema.specs.declared.row.Row.{Row}
use Rattle.snb_schema.specs.Frequencies.{FrequencyTable}
use Rattle.snb_tool_texts.specs.Counts.{check_text}
use Rattle.snb_trial.specs.Trial.{dataset}
use Rattle.snb_tool_words.specs.declared.command.Command.{Command}
use Rattle.snb_tool_words.specs.declared.command.Command.TheVariants.{Audit, Check, Expect, Latency, Run, Read, Trial, Validate, Walk}
use Rattle.snb_tool_outcome.specs.Inputs.{IsInput, at_first}
use Rattle.snb_tool_outcome.specs.Found.{Found}
use Rattle.snb_tool_outcome.specs.Output.{on_screen}
use Rattle.snb_tool_outcome.specs.WalkTexts.{reply_line, walk_text}
use Rattle.snb_ratio.specs.Chances.{ChanceFall}
use Rattle.snb_walk.specs.declared.target.Pick.{Pick}
use Rattle.snb_walk.specs.declared.target.Stop.{Stop}
use Rattle.snb_walk.specs.Targets.{AnswerRows, WalkStep}
use Rattle.snb_walk.specs.Walks.{IsWalk}
use Rattle.snb_ratio.specs.Ratios.{real_time}
use Rattle.snb_tool_outcome.specs.Runs.{IsRun, IsTried}
use Rattle.snb_tool_outcome.specs.LogsDone.{TellsLatencies, TellsVerdict}

-- what `check` shows of a dataset and a plan: how many rows, updates and reads there are
abbrev pub check_of : List Row → Plan → List ℕ
check_of base plan = check_text (length base) (length (updates_in plan)) (length (queries_in plan))

-- nothing is wrong with the files, and the text counts the rows of their dataset, and the updates
-- and reads of their plan
pub record IsChecked (held : Held) (frequencies : FrequencyTable) (texts : Written) : Type 0 where
  pub graph : List Row
  pub plan : Plan
  pub input : IsInput held real_time frequencies graph plan
  pub shown : texts ≡ on_screen (check_of graph plan)

-- the two texts of the cases of a plan: the cases, and how many operations there are
abbrev pub expected_texts : Plan → List Case → Written
expected_texts plan cases =
    record {
      screen = case_count_text (length plan.operations);
      log = [];
      answers = [];
      finals = [];
      cases = cases_text cases;
    }

-- nothing is wrong with the files, and the texts are those of the cases of their plan over their
-- dataset, each of which is read from its line
pub record IsExpected (held : Held) (frequencies : FrequencyTable) (texts : Written) : Type 0 where
  pub graph : List Row
  pub plan : Plan
  pub input : IsInput held real_time frequencies graph plan
  pub streams : IsOfStreams plan
  pub cases : List Case
  pub are : AreExpected graph plan cases
  pub read_back : AreReadBack cases
  pub shown : texts ≡ expected_texts plan cases

-- nothing is wrong with the tables and the file of cases, and the status and the text tell what is
-- found over the cases on the graph of the tables
pub record IsValidated (held : Held) (beside : Option (List ℕ)) (status : ℕ) (texts : Written)
    : Type 0 where
  pub graph : List Row
  pub dataset : IsDataset at_first held graph
  pub tally : Tally
  pub found : IsTally graph beside tally
  pub status_is : status ≡ tally_status tally
  pub shown : texts ≡ on_screen (tally_text tally)

-- the files are a dataset, and the text is the line of the reply to the query on it
pub record IsReadDone (held : Held) (query : Query) (texts : Written) : Type 0 where
  pub graph : List Row
  pub reply : List (List (List ByteCell))
  pub dataset : IsDataset at_first held graph
  pub replies : IsReply graph query reply
  pub shown : texts ≡ on_screen (reply_line reply)

-- the files are a dataset, and the text is that of the one walk of the query on it, under this
-- pick, chance and words
pub record IsWalked (held : Held) (pick : Pick) (query : Query) (chance : ChanceFall)
    (words : List ℕ) (texts : Written) : Type 0 where
  pub graph : List Row
  pub answer : AnswerRows
  pub steps : List WalkStep
  pub stop : Stop
  pub dataset : IsDataset at_first held graph
  pub walk : IsWalk graph pick chance words query answer steps stop
  pub shown : texts ≡ on_screen (walk_text answer steps stop)

-- the status is 0, and this holds of the texts
abbrev pub WithZero : (Written → Type 0) → ℕ → Written → Type 0
WithZero P status texts = (status ≡ 0) × P texts

-- the status and the texts of a command that is done
abbrev pub IsDone : Command → Found → Moments → ℕ → Written → Type 0
IsDone (Check folder table) found moments = WithZero (IsChecked found.held table)
IsDone (Run folder workers ratio table) found moments =
    WithZero (IsRun found.held workers ratio table moments)
IsDone (Audit folder log ratio table) found moments =
    TellsVerdict found.held found.beside ratio table
IsDone (Latency folder log ratio table) found moments =
    TellsLatencies found.held found.beside ratio table
IsDone (Expect folder table) found moments = WithZero (IsExpected found.held table)
IsDone (Validate folder cases via) found moments = IsValidated found.held found.beside
IsDone (Read folder query) found moments = WithZero (IsReadDone found.held query)
IsDone (Walk folder query chance words) found moments =
    WithZero (IsWalked found.held found.pick query chance words)
IsDone (Trial size workers) found moments = WithZero (IsTried size workers moments)
