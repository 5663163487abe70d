-- What a run, an audit and latencies say that are done, in short.
use Rattle.std.specs.Prelude.{◌≡◌, ℕ, ◌⊎◌, ◌↔◌, ◌++◌, List, length, Some}
use Rattle.snb_base.specs.Moments.{Moments}
use Rattle.snb_audit_model.specs.LogFiles.{IsLogOf}
use Rattle.snb_audit_model.specs.declared.verdict.AuditVerdict.{AuditVerdict}
use Rattle.snb_audit_model.specs.AuditVerdicts.{IsAuditVerdict, IsInOrder, IsWhole}
use Rattle.snb_audit_model.specs.VerdictTexts.{audit_text}
use Rattle.snb_base.specs.Outbox.{Written}
use Rattle.snb_base.specs.Shelf.{Files}
use Rattle.snb_input_files.specs.Files.{held_in}
use Rattle.snb_plan.specs.Plans.{Plan, schedule_of}
use Rattle.snb_workers_replay.specs.Replay.{IsFinal}
use Rattle.snb_workers_replay.specs.Waiting.{StaysBelow, WaitsForAll}
use Rattle.snb_history.specs.declared.event.Event.{Event}
use Rattle.snb_history.specs.declared.logged.Header.{Header}
use Rattle.snb_history.specs.declared.logged.Logged.{Logged}
use Rattle.snb_schema.specs.declared.row.Row.{Row}
use Rattle.snb_schema.specs.Frequencies.{FrequencyTable}
use Rattle.snb_history.specs.Rules.{IsComplete, IsLegal}
use Rattle.snb_history.specs.RunTexts.{header_of, log_text}
use Rattle.snb_runlog.specs.Laws.{ReadsBack}
use Rattle.snb_graph_model.specs.FinalText.{final_text}
use Rattle.snb_summary.specs.declared.summary.Measure.{Measure}
use Rattle.snb_summary.specs.Summaries.{IsSummary}
use Rattle.snb_summary.specs.SummaryTexts.{measures_text}
use Rattle.snb_summary.specs.Works.{run_of}
use Rattle.snb_tool_texts.specs.Answers.{answers_text}
use Rattle.snb_tool_words.specs.declared.command.Command.TheVariants.{Audit, Latency, Run}
use Rattle.snb_tool_words.specs.Commands.{IsLineOf}
use Rattle.snb_replica.specs.Counts.{TellsCounts}
use Rattle.snb_audit_model.specs.Miscounts.{events_of}
use Rattle.snb_answered.specs.declared.done.Answered.{Answered}
use Rattle.snb_replica.specs.Runs.{AreByClock, AreReplies}
use Rattle.snb_tool_outcome.specs.Inputs.{IsInput}
use Rattle.snb_tool_outcome.specs.Outcome.{Asked, IsCallAnswer}
use Rattle.snb_tool_outcome.specs.Output.{HasWritten}

-- what a run that is done has added to the channels, where the files and the channels are told: the
-- log of a legal, complete history of the plan of the files, in which no insert that waits starts
-- before every insert of a person or a forum has finished whose t is at most its t_d, and at no
-- time the completion time comes to the t of one that hasn't finished, with its count of rows at
-- each Finish, and the log spells that alone; each moment is one of the clock's; the replies to its
-- reads, each on the graph of its front, and there before its Finish; and the rows of the dataset
-- and of each insert, each once
pub record IsRunInShort (files : Files) (moments : Moments) (folder : List ℕ) (workers ratio : ℕ)
    (frequencies : FrequencyTable) (old new : Written) : Type 0 where
  pub graph : List Row
  pub plan : Plan
  pub input : IsInput (held_in folder files) ratio frequencies graph plan
  pub history : List Event
  pub legal : IsLegal (schedule_of plan) workers history
  pub complete : IsComplete (schedule_of plan) history
  pub waits : WaitsForAll plan history
  pub below : StaysBelow plan history
  pub logged : List Logged
  pub counted : TellsCounts graph plan history logged
  pub log : new.log ≡ old.log ++ log_text workers (length plan.operations) logged
  pub read_back : ReadsBack (header_of workers (length plan.operations)) logged
  pub replies : List Answered
  pub by_clock : AreByClock moments history
  pub answered : AreReplies graph plan moments history history replies
  pub answers : new.answers ≡ old.answers ++ answers_text replies
  pub final : List Row
  pub rows : IsFinal graph plan final
  pub finals : new.finals ≡ old.finals ++ final_text final

-- status 0 of `run` says that
abbrev pub RunInShort : Type 0
RunInShort =
    (asked : Asked) (files : Files) (moments : Moments) (folder : List ℕ) (workers ratio : ℕ)
    (frequencies : FrequencyTable) (old new : Written)
    → IsLineOf asked.words (Run folder workers ratio frequencies)
    → HasWritten (Some old) (Some new) (IsCallAnswer asked (Some files) moments 0)
    → IsRunInShort files moments folder workers ratio frequencies old new

-- what an audit that is done says, where the files and the channels are told: the log of this name
-- says one header and one list of events with their counts; the status is 0 exactly where its
-- history is legal and complete on the plan of the files, at least 95 of 100 operations are on
-- time, no count that is stated is wrong, and the number of operations, where it is stated, is the
-- plan's; and the text of its verdict was added to the screen
pub record IsAuditInShort (files : Files) (folder log : List ℕ) (ratio : ℕ)
    (frequencies : FrequencyTable) (status : ℕ) (old new : Written) : Type 0 where
  pub graph : List Row
  pub plan : Plan
  pub input : IsInput (held_in folder files) ratio frequencies graph plan
  pub header : Header
  pub logged : List Logged
  pub said : IsLogOf (files log) header logged
  pub exactly : (status ≡ 0) ↔ IsInOrder graph plan header logged
  pub verdict : AuditVerdict
  pub judged : IsAuditVerdict graph plan header logged verdict
  pub screen : new.screen ≡ old.screen ++ audit_text verdict

-- status 0 or 1 of `audit` says that
abbrev pub AuditInShort : Type 0
AuditInShort =
    (asked : Asked) (files : Files) (moments : Moments) (folder log : List ℕ) (ratio : ℕ)
    (frequencies : FrequencyTable) (status : ℕ) (old new : Written)
    → IsLineOf asked.words (Audit folder log ratio frequencies) → (status ≡ 0) ⊎ (status ≡ 1)
    → HasWritten (Some old) (Some new) (IsCallAnswer asked (Some files) moments status)
    → IsAuditInShort files folder log ratio frequencies status old new

-- what `latency` that is done says, where the files and the channels are told: the log of this name
-- says one header and one list of events with their counts; the status is 0 exactly where its
-- history is legal and complete on the plan of the files, no count that is stated is wrong, and the
-- number of operations, where it is stated, is the plan's; with status 0 the text of the summary of
-- the history was added to the screen, and else that of the verdict
pub record IsLatencyInShort (files : Files) (folder log : List ℕ) (ratio : ℕ)
    (frequencies : FrequencyTable) (status : ℕ) (old new : Written) : Type 0 where
  pub graph : List Row
  pub plan : Plan
  pub input : IsInput (held_in folder files) ratio frequencies graph plan
  pub header : Header
  pub logged : List Logged
  pub said : IsLogOf (files log) header logged
  pub exactly : (status ≡ 0) ↔ IsWhole graph plan header logged
  pub summary : status ≡ 0 → (measures : List Measure)
      × IsSummary (run_of plan (events_of logged)) measures
      × (new.screen ≡ old.screen ++ measures_text measures)
  pub verdict : status ≡ 1 → (verdict : AuditVerdict)
      × IsAuditVerdict graph plan header logged verdict
      × (new.screen ≡ old.screen ++ audit_text verdict)

-- status 0 or 1 of `latency` says that
abbrev pub LatencyInShort : Type 0
LatencyInShort =
    (asked : Asked) (files : Files) (moments : Moments) (folder log : List ℕ) (ratio : ℕ)
    (frequencies : FrequencyTable) (status : ℕ) (old new : Written)
    → IsLineOf asked.words (Latency folder log ratio frequencies) → (status ≡ 0) ⊎ (status ≡ 1)
    → HasWritten (Some old) (Some new) (IsCallAnswer asked (Some files) moments status)
    → IsLatencyInShort files folder log ratio frequencies status old new
