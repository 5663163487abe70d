use Rattle.std.proofs.Common.{map}
use Rattle.std.proofs.lemmas.Result.{IfOk-weaker}
use Rattle.serde_json.specs.View.{view}
use Rattle.snb_validation_cases.specs.Replies.{AreStay}
use Rattle.snb_validation_cases.proofs.ValueFacts.{array_found}
use Rattle.snb_validation_cases.proofs.cells.stay_in.Goals as goal

pub returns-in-Some : goal.returns-in-Some
returns-in-Some c = IfOk-weaker c.stay_of_items.result _ _ (λ found h. array_found AreStay (view c.args.value.now) (map view c.in-Some.items.now) c.in-Some.ensures found h) c.stay_of_items.ensures
