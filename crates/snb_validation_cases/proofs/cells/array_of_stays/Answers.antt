use Rattle.std.proofs.Common.{map}
use Rattle.std.proofs.lemmas.Result.{IfOk-weaker}
use Rattle.serde_json.specs.View.{view}
use Rattle.std.specs.List.{AllZip}
use Rattle.snb_validation_cases.specs.Replies.{IsStayData}
use Rattle.snb_validation_cases.proofs.ValueFacts.{array_found}
use Rattle.snb_validation_cases.proofs.cells.array_of_stays.Goals as goal

pub returns-in-Some : goal.returns-in-Some
returns-in-Some c = IfOk-weaker c.stays_of.result _ _ (λ found h. array_found (AllZip IsStayData) (view c.args.value.now) (map view c.in-Some.items.now) c.in-Some.ensures found h) c.stays_of.ensures
