use Rattle.std.proofs.Common.{List, None, Option, Some, subst}
use Rattle.snb_history.specs.declared.logged.Logged.{Logged}
use Rattle.snb_auditor.proofs.Laws.{verdict_is_one}
use Rattle.snb_audit_model.specs.declared.miscount.Miscount.{Miscount}
use Rattle.snb_audit_model.specs.Miscounts.{IsFirstMiscount}
use Rattle.snb_auditor_log.proofs.VerdictFacts.{counted, miscounted}
use Rattle.snb_auditor_log.proofs.audit.after_judging.Goals as goal

pub returns-in-Some : goal.returns-in-Some
returns-in-Some g c =
    miscounted c.args.base.now c.args.plan.now c.args.log.now.header c.args.log.now.logged.items verdict_is_one c.args.verdict c.requires.judged c.in_default.not-Violated c.in-Some.miscount c.requires.matched
    (subst (λ (xs : List Logged). IsFirstMiscount c.args.base.now c.args.plan.now xs (Some c.in-Some.miscount)) c.deref.ensures.value
    (subst (λ (o : Option Miscount). IsFirstMiscount c.args.base.now c.args.plan.now c.deref.result.now o) c.in-Some.is c.in_ok-miscount.ensures))

pub returns-in-None : goal.returns-in-None
returns-in-None g c =
    counted c.args.base.now c.args.plan.now c.args.log.now.header c.args.log.now.logged.items verdict_is_one c.args.verdict c.requires.judged c.in_default.not-Violated c.requires.matched
    (subst (λ (xs : List Logged). IsFirstMiscount c.args.base.now c.args.plan.now xs None) c.deref.ensures.value
    (subst (λ (o : Option Miscount). IsFirstMiscount c.args.base.now c.args.plan.now c.deref.result.now o) c.in-None.is c.in_ok-miscount.ensures))
