use Rattle.std.proofs.Common.{◌∙◌, Err, refl, ap, subst, inl}
use Rattle.snb_validation_check.specs.CaseTakers.{Counted}
use Rattle.snb_validation_model.specs.Steps.{IsUnmet}
use Rattle.snb_validation_check.proofs.file.CaseFileSinkSinkCaseAt.put.Goals as goal

pub returns-in-Err-Missing-clause-bad : goal.returns-in-Err-Missing-clause-bad
returns-in-Err-Missing-clause-bad g c =
    let at = c.in-Err-Missing in
    inl (
      at.missing,
      subst (λ (s : Counted). IsUnmet s.checked.graph c.args.item.case at.missing) c.self.view_is ((c.step_via.ensures.missing at.missing).0 (at.is ∙ ap Err at.field-0-is)),
      refl,
    )
