use Rattle.std.proofs.Common.{map}
use Rattle.std.proofs.lemmas.Result.{IfOk-weaker}
use Rattle.serde_json.specs.View.{view}
use Rattle.snb_validation_cases.specs.Replies.{AreReply}
use Rattle.snb_validation_cases.proofs.ValueFacts.{array_found}
use Rattle.snb_validation_cases.proofs.replies.reply_in.Goals as goal

pub returns-in-Some : goal.returns-in-Some
returns-in-Some c = IfOk-weaker c.reply_of.result _ _ (λ found h. array_found (AreReply c.args.query.now) (view c.args.value.now) (map view c.in-Some.items.now) c.in-Some.ensures found h) c.reply_of.ensures
