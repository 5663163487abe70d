use Rattle.std.proofs.Common.{List, ◌∙◌, ◌≡◌, ap, arith, subst, sym}
use Rattle.std.specs.Prelude.{IsUtf8}
use Rattle.json.specs.Lex.{tokens}
use Rattle.json.specs.Token.{Token}
use Rattle.snb_validation_cases.specs.Cases.{IsCase}
use Rattle.snb_validation_cases.specs.Takes.{Takes}
use Rattle.snb_validation_cases.proofs.TakeFacts.{found_is, none_is, taken_read}
use Rattle.snb_validation_cases.proofs.taken.taken_case.Goals as goal

pub returns : goal.returns
returns c =
    let utf8 : IsUtf8 c.args.text.now = grind arith in
    let same : c.in-Ok.text.now ≡ c.args.text.now = grind arith in
    let whole = taken_read (λ d. IsCase d c.in-Some.case) c.args.text.now c.case_at.new.reader (subst (λ (ts : List Token). Takes 6 (λ d. IsCase d c.in-Some.case) ts c.case_at.new.reader) (c.in_ok-reader.ensures.ok ∙ ap tokens same) (found_is _ _ _ c.in-Some.is c.in_ok-case.ensures)) (none_is _ _ _ (sym c.if-is_some.ensures) c.next.ensures.value).0 in
    (utf8, whole.0, whole.1, whole.2)
