-- What an audit and latencies tell of a log.
use Rattle.std.specs.Prelude.{◌≡◌, ℕ, List, Option, MatchBool}
use Rattle.snb_audit_model.specs.LogFiles.{IsLogOf}
use Rattle.snb_audit_model.specs.declared.verdict.AuditVerdict.{AuditVerdict}
use Rattle.snb_audit_model.specs.AuditVerdicts.{IsAuditVerdict, is_whole}
use Rattle.snb_audit_model.specs.VerdictTexts.{audit_status, audit_text}
use Rattle.snb_base.specs.Outbox.{Written}
use Rattle.snb_input_files.specs.Walk.{Held}
use Rattle.snb_plan.specs.Plans.{Plan}
use Rattle.snb_history.specs.declared.event.Event.{Event}
use Rattle.snb_history.specs.declared.logged.Header.{Header}
use Rattle.snb_history.specs.declared.logged.Logged.{Logged}
use Rattle.snb_schema.specs.declared.row.Row.{Row}
use Rattle.snb_schema.specs.Frequencies.{FrequencyTable}
use Rattle.snb_summary.specs.declared.summary.Measure.{Measure}
use Rattle.snb_summary.specs.Summaries.{IsSummary}
use Rattle.snb_summary.specs.SummaryTexts.{measures_text}
use Rattle.snb_summary.specs.Works.{run_of}
use Rattle.snb_audit_model.specs.Miscounts.{events_of}
use Rattle.snb_tool_outcome.specs.Inputs.{IsInput}
use Rattle.snb_tool_outcome.specs.Output.{on_screen}

-- nothing is wrong with the files of this plan, the bytes are a log that says this header and these
-- events with their counts, and this is the verdict on it
pub record IsJudgedLog (held : Held) (beside : Option (List ℕ)) (ratio : ℕ)
    (frequencies : FrequencyTable) (plan : Plan) (header : Header) (logged : List Logged)
    (verdict : AuditVerdict) : Type 0 where
  pub graph : List Row
  pub input : IsInput held ratio frequencies graph plan
  pub log : IsLogOf beside header logged
  pub judged : IsAuditVerdict graph plan header logged verdict

-- the status and the text tell a verdict on the log
pub record TellsVerdict (held : Held) (beside : Option (List ℕ)) (ratio : ℕ)
    (frequencies : FrequencyTable) (status : ℕ) (texts : Written) : Type 0 where
  pub plan : Plan
  pub header : Header
  pub logged : List Logged
  pub verdict : AuditVerdict
  pub judged : IsJudgedLog held beside ratio frequencies plan header logged verdict
  pub status_is : status ≡ audit_status verdict
  pub shown : texts ≡ on_screen (audit_text verdict)

-- the text is that of the summary of a history of the plan
pub record ShowsSummary (plan : Plan) (h : List Event) (texts : Written) : Type 0 where
  pub measures : List Measure
  pub summary : IsSummary (run_of plan h) measures
  pub shown : texts ≡ on_screen (measures_text measures)

-- nothing is wrong with the files and the log. Where the verdict on the log is that the run is
-- accepted or late, the status is 0, and the text that of the summary of its history; else the
-- status is 1, and the text that of the verdict
pub record TellsLatencies (held : Held) (beside : Option (List ℕ)) (ratio : ℕ)
    (frequencies : FrequencyTable) (status : ℕ) (texts : Written) : Type 0 where
  pub plan : Plan
  pub header : Header
  pub logged : List Logged
  pub verdict : AuditVerdict
  pub judged : IsJudgedLog held beside ratio frequencies plan header logged verdict
  pub told : MatchBool (is_whole verdict)
      ((status ≡ 0) × ShowsSummary plan (events_of logged) texts)
      ((status ≡ 1) × (texts ≡ on_screen (audit_text verdict)))
