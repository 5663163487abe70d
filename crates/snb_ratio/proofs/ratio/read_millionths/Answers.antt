use Rattle.std.proofs.Common.{arith}
use Rattle.std.proofs.lemmas.List.Elements.{recursion_from_All}
use Rattle.snb_ratio.proofs.RatioFacts.{part_small, whole_and_part, whole_first}
use Rattle.snb_ratio.proofs.ratio.read_millionths.Goals as goal

pub returns-in_err-units : goal.returns-in_err-units
returns-in_err-units c =
    rw c.from_residual.ensures (λ n s.
    let (units, num) = whole_first c.args.text.now c.at_point.result.0.now c.at_point.result.1 n (recursion_from_All _ _ c.at_point.ensures.whole) c.at_point.ensures.part s in
    c.in_err-units.ensures units num)

pub returns-in_err-rest-in-Some : goal.returns-in_err-rest-in-Some
returns-in_err-rest-in-Some c =
    let e = rw c.in-Some.is at c.at_point.ensures.part in
    rw c.from_residual-in_err-rest-in-Some.ensures (λ n s.
    let (units, num, (rest, spelled, value)) = whole_and_part c.args.text.now c.at_point.result.0.now c.in-Some.digits.now n (recursion_from_All _ _ c.at_point.ensures.whole) e s in
    c.in_err-rest-in-Some.ensures rest spelled)

pub overflow_add-result : goal.overflow_add-result
overflow_add-result c = let small = part_small _ _ c.in_ok-rest-in-Some.ensures in omega (arith, c.in_ok-units.ensures)
