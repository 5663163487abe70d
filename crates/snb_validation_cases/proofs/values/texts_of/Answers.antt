use Rattle.snb_validation_cases.specs.Values.{IsString}
use Rattle.snb_validation_cases.proofs.ValueFacts.{each_more, each_none}
use Rattle.snb_validation_cases.proofs.values.texts_of.Goals as goal

pub returns-in_default : goal.returns-in_default
returns-in_default c xs h =
    let none = rw c.in_default.is at c.in_ok-text.ensures in
    each_none IsString c.items.item-index c.args.items.now c.item-item.result c.items-test.true (λ t r. none t (rw (← c.item-item.is) at r)) xs h

pub items-preserved : goal.items-preserved
items-preserved c =
    let seen = rw c.in-Some.is at c.in_ok-text.ensures in
    rw c.in_ok-push.ensures.items (each_more IsString c.items.item-index c.args.items.now c.item-item.result c.items.texts.items c.in-Some.text
    c.items-test.true c.items.invariant (rw (← c.item-item.is) seen))
