use Rattle.snb_validation_check.proofs.Laws.{has_text}
use Rattle.snb_test_handlers.proofs.cases.take.Goals as goal

pub step_via-requires-clause-text : goal.step_via-requires-clause-text
step_via-requires-clause-text g c = has_text c.in-Ok.ensures.ok.1 c.in-Ok.case c.in-Ok.ensures.ok.3
