use Rattle.std.proofs.Common.{◌≡◌, ◌∷◌, refl, arith}
use Rattle.json.specs.Token.{Token}
use Rattle.snb_validation_cases.proofs.TakeFacts.{take_flag}
use Rattle.snb_validation_cases.proofs.taken.flag_at.Goals as goal

pub returns : goal.returns
returns c =
    let first : c.args.reader.now ≡ Token.boolean c.in-Some-Bool.value ∷ c.next.new.self = grind arith in
    take_flag c.in-Some-Bool.value _ _ _ first (tt, refl)
