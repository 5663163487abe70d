use Rattle.std.proofs.Common.{◌≡◌, ◌∷◌, Some, ap, arith, sym}
use Rattle.json.specs.Token.{Token}
use Rattle.snb_validation_cases.proofs.TakeFacts.{take_string}
use Rattle.snb_validation_cases.proofs.taken.text_at.Goals as goal

pub returns-clause-found : goal.returns-clause-found
returns-clause-found c =
    let first : c.args.reader.now ≡ Token.string c.in-Some-String.text.now ∷ c.next.new.self = grind arith in
    let same : c.in_ok-from_str.field-0 ≡ c.in-Some-String.text.now = grind arith in
    take_string c.in-Some-String.text.now _ _ _ first (ap Some (sym same))
