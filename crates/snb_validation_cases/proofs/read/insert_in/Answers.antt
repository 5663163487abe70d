use Rattle.std.proofs.lemmas.Result.{IfOk-weaker}
use Rattle.serde_json.specs.View.{view}
use Rattle.snb_validation_cases.proofs.CaseFacts.{insert_found}
use Rattle.snb_validation_cases.proofs.read.insert_in.Goals as goal

pub returns-in-Some : goal.returns-in-Some
returns-in-Some c = IfOk-weaker c.line_in.result _ _ (λ found h. insert_found (view c.args.value.now) (view c.in-Some.held.now) c.in-Some.ensures found h) c.line_in.ensures
