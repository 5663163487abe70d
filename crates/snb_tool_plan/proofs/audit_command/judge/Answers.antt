use Rattle.std.proofs.Common.{Err, Ok, Option, refl, subst}
use Rattle.snb_base.specs.Shelf.{Files}
use Rattle.snb_audit_model.specs.Audited.{IsAuditAnswer}
use Rattle.snb_tool_outcome.specs.PlanEndings.{IsJudgedAnswer}
use Rattle.snb_tool_plan.proofs.PlanLemmas.{judged_by_log, judged_no_input, judged_no_log}
use Rattle.snb_tool_outcome.proofs.Laws.{passed}
use Rattle.snb_input_files.proofs.Laws.{still_asked}
use Rattle.snb_tool_plan.proofs.audit_command.judge.Goals as goal

pub audit_log-requires-clause-allowed : goal.audit_log-requires-clause-allowed
audit_log-requires-clause-allowed g c = still_asked c.in_ok-input.ensures.read.names c.args.log.now c.requires.log

pub returns-in_err-input-clause-answer : goal.returns-in_err-input-clause-answer
returns-in_err-input-clause-answer g c =
    passed (IsJudgedAnswer (g.S.Shelf.contents c.args.shelf.now) c.args.folder.now c.args.log.now c.args.ratio c.args.frequencies) c.from_residual.result c.in_err-input.field-0.0 c.from_residual.ensures.1
    (judged_no_input (g.S.Shelf.contents c.args.shelf.now) c.args.folder.now c.args.log.now c.args.ratio c.args.frequencies c.in_err-input.field-0.0 c.in_err-input.ensures.answer)

pub returns-in_err-audited-clause-answer : goal.returns-in_err-audited-clause-answer
returns-in_err-audited-clause-answer g c =
    passed (IsJudgedAnswer (g.S.Shelf.contents c.args.shelf.now) c.args.folder.now c.args.log.now c.args.ratio c.args.frequencies) c.from_residual-in_err-audited.result c.in_err-audited.field-0.0 c.from_residual-in_err-audited.ensures.1
    (judged_no_log (g.S.Shelf.contents c.args.shelf.now) c.args.folder.now c.args.log.now c.args.ratio c.args.frequencies c.in_ok-input.input c.in_err-audited.field-0.0 c.in_ok-input.ensures.answer
    (subst (λ (o : Option Files). IsAuditAnswer c.in_ok-input.input.graph c.in_ok-input.input.plan o c.args.log.now (Err c.in_err-audited.field-0.0)) c.in_ok-input.ensures.read.same c.in_err-audited.ensures.answer))

pub returns-clause-answer : goal.returns-clause-answer
returns-clause-answer g c =
    judged_by_log (g.S.Shelf.contents c.args.shelf.now) c.args.folder.now c.args.log.now c.args.ratio c.args.frequencies c.in_ok-input.input c.in_ok-audited.audited _ c.into_parts-plan.ensures.1 refl c.in_ok-input.ensures.answer
    (subst (λ (o : Option Files). IsAuditAnswer c.in_ok-input.input.graph c.in_ok-input.input.plan o c.args.log.now (Ok c.in_ok-audited.audited)) c.in_ok-input.ensures.read.same c.in_ok-audited.ensures.answer)
