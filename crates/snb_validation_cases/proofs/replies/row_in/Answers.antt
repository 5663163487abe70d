use Rattle.std.proofs.Common.{map}
use Rattle.std.proofs.lemmas.Result.{IfOk-weaker}
use Rattle.serde_json.specs.View.{view}
use Rattle.snb_read_model.specs.Columns.{columns_of}
use Rattle.snb_validation_cases.specs.Replies.{IsCellIn}
use Rattle.snb_validation_cases.specs.Values.{AreAlong}
use Rattle.snb_validation_cases.proofs.ValueFacts.{array_found}
use Rattle.snb_validation_cases.proofs.replies.row_in.Goals as goal

pub returns-in-Some : goal.returns-in-Some
returns-in-Some c = IfOk-weaker c.row_of.result _ _ (λ found h. array_found (AreAlong IsCellIn (columns_of c.args.query.now)) (view c.args.value.now) (map view c.in-Some.items.now) c.in-Some.ensures found h) c.row_of.ensures
