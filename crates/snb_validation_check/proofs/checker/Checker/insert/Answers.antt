use Rattle.std.proofs.Common.{◌≡◌, ◌↔◌, Err, subst}
use Rattle.snb_schema.specs.declared.refusal.Missing.{Missing as MissingNode}
use Rattle.snb_schema.specs.References.{refs_of}
use Rattle.snb_inserts.specs.Applying.{IsFirstMissing}
use Rattle.snb_inserts.specs.declared.applied.Applied.TheVariants.{Missing}
use Rattle.snb_validation_model.specs.Steps.{Checked}
use Rattle.snb_validation_check.proofs.checker.Checker.insert.Goals as goal

pub returns-clause-missing : goal.returns-clause-missing
returns-clause-missing c =
    subst (λ (t : Checked). (missing : MissingNode) → (c.apply.result ≡ Err (Missing missing)) ↔ IsFirstMissing t.graph (refs_of c.args.op.now) missing) c.self.view_is
    c.apply.ensures.missing
