use Rattle.std.proofs.Common.{◌≡◌, ◌∷◌, arith}
use Rattle.std.proofs.lemmas.Result.{IfOk-weaker}
use Rattle.json.specs.Token.{Token}
use Rattle.snb_validation_cases.proofs.TakeFacts.{insert_taken}
use Rattle.snb_validation_cases.proofs.taken.insert_at.Goals as goal

pub returns : goal.returns
returns c =
    let first : c.args.reader.now ≡ Token.string c.in-Some-String.text.now ∷ c.next.new.self = grind arith in
    IfOk-weaker c.line_of.result _ _ (λ found h. insert_taken c.in-Some-String.text.now _ c.next.new.self found first h) c.line_of.ensures
