use Rattle.std.proofs.Common.{◌≡◌, ◌∷◌, Some, refl, arith}
use Rattle.json.specs.Token.{Token}
use Rattle.serde_json.specs.Data.{unsigned}
use Rattle.serde_json.specs.Read.{number_of}
use Rattle.snb_validation_cases.proofs.TakeFacts.{take_number}
use Rattle.snb_validation_cases.proofs.taken.natural_at.Goals as goal

pub returns-then-n-most : goal.returns-then-n-most
returns-then-n-most c =
    let first : c.args.reader.now ≡ Token.number c.in-Some-Number.text.now ∷ c.next.new.self = grind arith in
    let made : number_of c.in-Some-Number.text.now ≡ Some (unsigned c.in_ok-n.n) = grind arith in
    take_number c.in-Some-Number.text.now (unsigned c.in_ok-n.n) _ _ _ first made (refl, c.if-n-most.true)
