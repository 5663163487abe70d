use Rattle.std.proofs.Common.{◌≡◌, ◌∷◌, arith, refl}
use Rattle.json.specs.Token.{begin_object}
use Rattle.snb_validation_cases.proofs.TakeFacts.{found_is, take_case}
use Rattle.snb_validation_cases.proofs.taken.case_at.Goals as goal

pub returns : goal.returns
returns c =
    let opens : c.args.reader.now ≡ begin_object ∷ c.next.new.self = grind arith in
    take_case c.in-Some.case c.args.reader.now c.next.new.self c.members_at.new.reader c.closes.new.reader opens (found_is _ _ _ c.in-Some.is c.in_ok-case.ensures) (c.if-not-closes.ensures refl)
