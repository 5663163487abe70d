use Rattle.std.proofs.Common.{arith}
use Rattle.snb_validation_cases.specs.Replies.{IsAnswerTo}
use Rattle.snb_validation_cases.proofs.ValueFacts.{along_long, along_more, along_none}
use Rattle.snb_validation_cases.proofs.replies.answers_of.Goals as goal

pub returns-then-queries-items : goal.returns-then-queries-items
returns-then-queries-items c xs h = c.if-queries-items.true (along_long IsAnswerTo c.args.queries.now c.args.items.now xs h)

pub returns-in_default : goal.returns-in_default
returns-in_default c xs h =
    let none = rw c.in_default.is at c.in_ok-answer.ensures.found in
    let below = c.loop-i-test.true in
    let long = c.if-queries-items.false in
    along_none IsAnswerTo c.loop-i.i c.args.queries.now c.args.items.now c.index-queries-i.result c.index-items-i.result c.index-items-i.is below (omega (arith, below, long))
    (λ t r. none t (rw (← c.index-queries-i.is) at r)) xs h

pub loop-i-preserved : goal.loop-i-preserved
loop-i-preserved c =
    let seen = rw c.in-Some.is at c.in_ok-answer.ensures.found in
    let below = c.loop-i-test.true in
    let long = c.if-queries-items.false in
    rw c.in_ok-push.ensures.items (along_more IsAnswerTo c.loop-i.i c.args.queries.now c.args.items.now c.index-queries-i.result c.index-items-i.result c.loop-i.answers.items c.in-Some.answer
    c.index-items-i.is below (omega (arith, below, long)) c.loop-i.invariant (rw (← c.index-queries-i.is) seen))
