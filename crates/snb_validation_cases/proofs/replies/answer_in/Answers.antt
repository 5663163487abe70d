use Rattle.std.proofs.Common.{map}
use Rattle.std.proofs.lemmas.Result.{IfOk-weaker}
use Rattle.serde_json.specs.View.{view}
use Rattle.std.specs.List.{AllZip}
use Rattle.snb_validation_cases.specs.Replies.{IsRow}
use Rattle.snb_validation_cases.proofs.ReplyFacts.{columns_found}
use Rattle.snb_validation_cases.proofs.ValueFacts.{array_found}
use Rattle.snb_validation_cases.proofs.replies.answer_in.Goals as goal

pub returns-in-Some-clause-columns : goal.returns-in-Some-clause-columns
returns-in-Some-clause-columns c = IfOk-weaker c.rows_of.result _ _ (λ found h. columns_found c.args.query.now (map view c.in-Some.items.now) found h) c.rows_of.ensures

pub returns-in-Some-clause-found : goal.returns-in-Some-clause-found
returns-in-Some-clause-found c = IfOk-weaker c.rows_of.result _ _ (λ found h. array_found (AllZip (IsRow c.args.query.now)) (view c.args.value.now) (map view c.in-Some.items.now) c.in-Some.ensures found h) c.rows_of.ensures
