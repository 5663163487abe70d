use Rattle.snb_validation_check.proofs.Laws.{has_text}
use Rattle.snb_test_handlers.proofs.steps.told_step.Goals as goal

pub step-requires : goal.step-requires
step-requires c = record { text = has_text c.in-Ok.ensures.ok.1 c.in-Ok.case c.in-Ok.ensures.ok.3 }
