use Rattle.std.proofs.Common.{◌∙◌, List, ap, subst, sym, arith}
use Rattle.snb_history.specs.declared.event.Event.{Event}
use Rattle.snb_history.specs.Rules.{IsLegal}
use Rattle.snb_plan.specs.Plans.{schedule_of}
use Rattle.snb_audit_model.specs.Miscounts.{events_of}
use Rattle.snb_test_workers.proofs.asked.miscount_of_sevens.Goals as goal

pub first_miscount-requires-clause-legal : goal.first_miscount-requires-clause-legal
first_miscount-requires-clause-legal g c =
    let run = c.in_ok-outcome.ensures.ran 1 (omega arith) in
    (1, subst (λ (h : List Event). IsLegal (schedule_of c.args.plan.now) 1 h) (sym (ap events_of c.deref.ensures.value ∙ (c.in_ok-logged.ensures ∙ c.as_slice.ensures))) run.legal)
