use Rattle.std.proofs.lemmas.Result.{IfOk-weaker}
use Rattle.serde_json.specs.View.{view}
use Rattle.snb_validation_cases.proofs.CaseFacts.{ask_found}
use Rattle.snb_validation_cases.proofs.read.ask_in.Goals as goal

pub returns-in-Some : goal.returns-in-Some
returns-in-Some c =
    IfOk-weaker c.ask_of.result _ _ (λ found h. ask_found (view c.args.value.now) (view c.in-Some.params.now) (view c.in-Some.word.now) (view c.in-Some.held.now) c.in-Some.ensures found h) c.ask_of.ensures
