-- What the audit of a log answers.
use Rattle.std.specs.Prelude.{ℕ, List, Option, Result, Ok, Err}
use Rattle.snb_base.specs.Shelf.{Files}
use Rattle.snb_schema.specs.declared.row.Row.{Row}
use Rattle.snb_input_files.specs.declared.load.Load.{Load}
use Rattle.snb_input_files.specs.declared.load.Load.TheVariants.{Refused, ReadFault, Memory}
use Rattle.snb_base.specs.FirstOf.{FirstOf, NoneOf}
use Rattle.snb_input_files.specs.Loading.{IsTold}
use Rattle.snb_plan.specs.Plans.{Plan}
use Rattle.snb_audit_model.specs.declared.audited.Audited.{Audited}
use Rattle.snb_audit_model.specs.AuditVerdicts.{IsAuditVerdict}
use Rattle.snb_audit_model.specs.LogFiles.{IsLogOf, log_checks}

-- nothing is wrong with a log, which says this, and this is the verdict on it by a plan over a
-- dataset
pub record IsAudited (base : List Row) (plan : Plan) (held : Option (List ℕ)) (a : Audited)
    : Type 0 where
  pub clean : NoneOf (log_checks held)
  pub says : IsLogOf held a.log.header a.log.logged.items
  pub judged : IsAuditVerdict base plan a.log.header a.log.logged.items a.verdict

-- what the audit of a log answers: this is held under the name, where the shelf tells what it
-- holds, which says this and on which this is the verdict, or which is refused so
abbrev pub IsAuditAnswer : List Row → Plan → Option Files → List ℕ → Result Audited Load → Type 0
IsAuditAnswer base plan contents name (Ok a) =
    (held : Option (List ℕ)) × IsTold contents name held × IsAudited base plan held a
IsAuditAnswer base plan contents name (Err (Refused r)) =
    (held : Option (List ℕ)) × IsTold contents name held × FirstOf (log_checks held) r
IsAuditAnswer base plan contents name (Err ReadFault) = Unit {0}
IsAuditAnswer base plan contents name (Err Memory) = Unit {0}
