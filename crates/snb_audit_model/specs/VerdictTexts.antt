-- What is shown of a verdict.
use Rattle.std.specs.Prelude.{ℕ, List, ◌++◌, codes}
use Rattle.std.specs.Fmt.{decimal, signed_decimal}
use Rattle.snb_auditor.specs.declared.verdict.Verdict.{Verdict}
use Rattle.snb_auditor.specs.declared.verdict.Verdict.TheVariants.{Violated, Halted, Incomplete, TooLate, Accepted}
use Rattle.snb_audit_model.specs.declared.verdict.AuditVerdict.{AuditVerdict}
use Rattle.snb_audit_model.specs.declared.verdict.AuditVerdict.TheVariants.{Judged, Miscounted, Mismatched}

-- the line of a verdict on a history
abbrev pub verdict_text : Verdict → List ℕ
verdict_text (Violated v) =
    codes "violated event " ++ decimal v.event ++ codes " rule V" ++ decimal v.rule
    ++ codes " needs " ++ signed_decimal v.needs ++ codes " found " ++ signed_decimal v.found
    ++ codes "\n"
verdict_text (Halted worker) = codes "halted worker " ++ decimal worker ++ codes "\n"
verdict_text (Incomplete op) = codes "incomplete operation " ++ decimal op ++ codes "\n"
verdict_text (TooLate on_time all) =
    codes "late " ++ decimal on_time ++ codes " of " ++ decimal all ++ codes "\n"
verdict_text (Accepted on_time all) =
    codes "accepted " ++ decimal on_time ++ codes " of " ++ decimal all ++ codes "\n"

-- the line of a verdict on a log
abbrev pub audit_text : AuditVerdict → List ℕ
audit_text (Mismatched needs found) =
    codes "mismatched operations needs " ++ decimal needs ++ codes " found " ++ decimal found
    ++ codes "\n"
audit_text (Miscounted m) =
    codes "miscounted event " ++ decimal m.event ++ codes " needs " ++ decimal m.needs
    ++ codes " found " ++ decimal m.found ++ codes "\n"
audit_text (Judged verdict) = verdict_text verdict

-- the status of a verdict on a history: 0 where the run is accepted, else 1
abbrev pub verdict_status : Verdict → ℕ
verdict_status (Violated v) = 1
verdict_status (Halted worker) = 1
verdict_status (Incomplete op) = 1
verdict_status (TooLate on_time all) = 1
verdict_status (Accepted on_time all) = 0

-- the status of a verdict on a log: 0 where the run is accepted, else 1
abbrev pub audit_status : AuditVerdict → ℕ
audit_status (Mismatched needs found) = 1
audit_status (Miscounted m) = 1
audit_status (Judged verdict) = verdict_status verdict
