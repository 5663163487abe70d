-- Laws of what a log is refused for, of what it says, and of the verdict on it.
use Rattle.std.specs.Prelude.{◌≡◌, ◌↔◌, ◌≤◌, ℕ, true, List, Option, Some, length}
use Rattle.snb_history.specs.declared.logged.Header.{Header}
use Rattle.snb_history.specs.declared.logged.Logged.{Logged}
use Rattle.snb_schema.specs.declared.limits.TheConstants.{MAX_BYTES}
use Rattle.snb_schema.specs.declared.refusal.Refusal.{Refusal}
use Rattle.snb_schema.specs.declared.row.Row.{Row}
use Rattle.snb_base.specs.FirstOf.{FirstOf, NoneOf}
use Rattle.snb_graph_model.specs.Graphs.{IsGraph}
use Rattle.snb_graph_model.specs.Soundness.{Sound}
use Rattle.snb_plan.specs.Plans.{Plan}
use Rattle.snb_workers_replay.specs.Laws.{IsReplayed}
use Rattle.snb_audit_model.specs.declared.verdict.AuditVerdict.{AuditVerdict}
use Rattle.snb_audit_model.specs.AuditVerdicts.{IsAuditVerdict, IsInOrder, IsWhole, is_whole}
use Rattle.snb_audit_model.specs.LogFiles.{IsLogOf, log_checks}
use Rattle.snb_audit_model.specs.VerdictTexts.{audit_status}

-- a log is refused for one thing at most
abbrev pub OneLogRefusal : Type 0
OneLogRefusal =
    (held : Option (List ℕ)) (r q : Refusal) → FirstOf (log_checks held) r
    → FirstOf (log_checks held) q → r ≡ q

-- where it is refused, something is wrong with it
abbrev pub RefusedOrNot : Type 0
RefusedOrNot =
    (held : Option (List ℕ)) (r : Refusal) → FirstOf (log_checks held) r
    → ¬ NoneOf (log_checks held)

-- a log says one header and one list of events with their counts at most
abbrev pub LogSaysOne : Type 0
LogSaysOne =
    (held : Option (List ℕ)) (a b : Header) (g h : List Logged) → IsLogOf held a g
    → IsLogOf held b h → (a ≡ b) × (g ≡ h)

-- nothing is wrong with the bytes of a log that say something, where they are no more than there
-- may be
abbrev pub SaidLogIsClean : Type 0
SaidLogIsClean =
    (bytes : List ℕ) (header : Header) (logged : List Logged) → length bytes ≤ MAX_BYTES
    → IsLogOf (Some bytes) header logged → NoneOf (log_checks (Some bytes))

-- a log has one verdict at most, by a plan of streams that is closed over a sound graph
abbrev pub AuditVerdictIsOne : Type 0
AuditVerdictIsOne =
    (base : List Row) (plan : Plan) (header : Header) (logged : List Logged)
    (one other : AuditVerdict) → IsGraph base → Sound base → IsReplayed base plan
    → IsAuditVerdict base plan header logged one → IsAuditVerdict base plan header logged other
    → one ≡ other

-- the status is 0 exactly where the history is legal, complete and timely, no count is wrong, and
-- the number of operations that is stated is the plan's
abbrev pub AcceptedInOrder : Type 0
AcceptedInOrder =
    (base : List Row) (plan : Plan) (header : Header) (logged : List Logged)
    (verdict : AuditVerdict) →
    IsAuditVerdict base plan header logged verdict
    → (audit_status verdict ≡ 0) ↔ IsInOrder base plan header logged

-- the verdict is that the run is accepted or late exactly where the history is legal and complete,
-- no count is wrong, and the number of operations that is stated is the plan's
abbrev pub WholeExactly : Type 0
WholeExactly =
    (base : List Row) (plan : Plan) (header : Header) (logged : List Logged)
    (verdict : AuditVerdict) →
    IsAuditVerdict base plan header logged verdict
    → (is_whole verdict ≡ true) ↔ IsWhole base plan header logged
