use Rattle.snb_validation_cases.specs.Replies.{IsStayData}
use Rattle.snb_validation_cases.proofs.ValueFacts.{each_more, each_none}
use Rattle.snb_validation_cases.proofs.cells.stays_of.Goals as goal

pub returns-in_default : goal.returns-in_default
returns-in_default c xs h =
    let none = rw c.in_default.is at c.in_ok-stay.ensures in
    each_none IsStayData c.items.item-index c.args.items.now c.item-item.result c.items-test.true (λ t r. none t (rw (← c.item-item.is) at r)) xs h

pub items-preserved : goal.items-preserved
items-preserved c =
    let seen = rw c.in-Some.is at c.in_ok-stay.ensures in
    rw c.in_ok-push.ensures.items (each_more IsStayData c.items.item-index c.args.items.now c.item-item.result c.items.stays.items c.in-Some.stay
    c.items-test.true c.items.invariant (rw (← c.item-item.is) seen))
