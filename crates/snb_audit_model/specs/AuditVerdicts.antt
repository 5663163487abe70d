-- The verdict of the audit of a log.
use Rattle.std.specs.Prelude.{◌≡◌, ◌≢◌, ℕ, Bool, true, false, List, [], ◌∷◌, length, None, Some, IfSome}
use Rattle.snb_base.specs.FirstOf.{FirstOf}
use Rattle.snb_history.specs.declared.logged.Header.{Header}
use Rattle.snb_history.specs.declared.logged.Logged.{Logged}
use Rattle.snb_schema.specs.declared.row.Row.{Row}
use Rattle.snb_history.specs.Rules.{IsComplete, IsLegal}
use Rattle.snb_auditor.specs.declared.verdict.Verdict.{Verdict}
use Rattle.snb_auditor.specs.declared.verdict.Verdict.TheVariants.{Violated, TooLate, Accepted}
use Rattle.snb_auditor.specs.declared.verdict.Violation.{Violation}
use Rattle.snb_auditor.specs.Verdicts.{IsTimelyRun, IsVerdict}
use Rattle.snb_plan.specs.Plans.{Plan, schedule_of}
use Rattle.snb_audit_model.specs.declared.miscount.Miscount.{Miscount}
use Rattle.snb_audit_model.specs.Miscounts.{IsFirstMiscount, events_of}
use Rattle.snb_audit_model.specs.declared.verdict.AuditVerdict.{AuditVerdict}
use Rattle.snb_audit_model.specs.declared.verdict.AuditVerdict.TheVariants.{Judged, Miscounted, Mismatched}

-- the header states a number of operations, and the plan has another
pub record IsMismatched (plan : Plan) (header : Header) (verdict : AuditVerdict) : Type 0 where
  pub found : ℕ
  pub stated : header.operations ≡ Some found
  pub differ : found ≢ length plan.operations
  pub is : verdict ≡ Mismatched (length plan.operations) found

-- an event of the history breaks a rule
pub record IsViolated (plan : Plan) (header : Header) (logged : List Logged)
    (verdict : AuditVerdict) : Type 0 where
  pub violation : Violation
  pub judged : IsVerdict (schedule_of plan) header.workers (events_of logged) (Violated violation)
  pub is : verdict ≡ Judged (Violated violation)

-- the history is legal, and the count of an event isn't its own
pub record IsMiscounted (base : List Row) (plan : Plan) (header : Header) (logged : List Logged)
    (verdict : AuditVerdict) : Type 0 where
  pub miscount : Miscount
  pub legal : IsLegal (schedule_of plan) header.workers (events_of logged)
  pub first : IsFirstMiscount base plan logged (Some miscount)
  pub is : verdict ≡ Miscounted miscount

-- this is the verdict on the history
pub record IsJudged (plan : Plan) (header : Header) (logged : List Logged) (verdict : AuditVerdict)
    : Type 0 where
  pub history : Verdict
  pub judged : IsVerdict (schedule_of plan) header.workers (events_of logged) history
  pub is : verdict ≡ Judged history

-- what is tried of a log, in order, each with its verdict: the number of operations that the header
-- states, the rules, the counts, and what else there is to say of the history: a Halt, an operation
-- that isn't finished, and how many operations were on time
abbrev pub audit_checks : List Row → Plan → Header → List Logged → List {1} (AuditVerdict → Type 0)
audit_checks base plan header logged =
    IsMismatched plan header ∷ IsViolated plan header logged ∷ IsMiscounted base plan header logged
    ∷ IsJudged plan header logged ∷ []

-- the verdict on a log with this header that tells this, by a plan over a dataset: the first that
-- applies
abbrev pub IsAuditVerdict : List Row → Plan → Header → List Logged → AuditVerdict → Type 0
IsAuditVerdict base plan header logged verdict =
    FirstOf (audit_checks base plan header logged) verdict

-- the number of operations, where the header states it, is the plan's
abbrev pub IsMatched : Plan → Header → Type 0
IsMatched plan header = IfSome header.operations (λ n. n ≡ length plan.operations)

-- the verdict says that the run is whole: it is accepted, or late
abbrev pub is_whole : AuditVerdict → Bool
is_whole (Judged (TooLate on_time all)) = true
is_whole (Judged (Accepted on_time all)) = true
is_whole other = false

-- a log is that of a whole run of the plan over the base
pub record IsWhole (base : List Row) (plan : Plan) (header : Header) (logged : List Logged)
    : Type 0 where
  pub legal : IsLegal (schedule_of plan) header.workers (events_of logged)
  pub complete : IsComplete (schedule_of plan) (events_of logged)
  pub counted : IsFirstMiscount base plan logged None
  pub matched : IsMatched plan header

-- a log is that of a whole run, of whose operations at least 95 of 100 are on time
pub record IsInOrder (base : List Row) (plan : Plan) (header : Header) (logged : List Logged)
    : Type 0 where
  pub whole : IsWhole base plan header logged
  pub timely : IsTimelyRun (schedule_of plan) (events_of logged)
