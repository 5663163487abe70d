use Rattle.std.proofs.Common.{arith}
use Rattle.snb_validation_cases.specs.Replies.{IsCellIn}
use Rattle.snb_validation_cases.proofs.ValueFacts.{along_long, along_more, along_none}
use Rattle.snb_validation_cases.proofs.replies.cells_of.Goals as goal

pub returns-then-columns-items : goal.returns-then-columns-items
returns-then-columns-items c xs h = c.if-columns-items.true (along_long IsCellIn c.args.columns.now c.args.items.now xs h)

pub returns-in_default : goal.returns-in_default
returns-in_default c xs h =
    let none = rw c.in_default.is at c.in_ok-cell.ensures in
    let below = c.loop-i-test.true in
    let long = c.if-columns-items.false in
    along_none IsCellIn c.loop-i.i c.args.columns.now c.args.items.now _ c.index-items-i.result c.index-items-i.is below (omega (arith, below, long)) none xs h

pub loop-i-preserved : goal.loop-i-preserved
loop-i-preserved c =
    let seen = rw c.in-Some.is at c.in_ok-cell.ensures in
    let below = c.loop-i-test.true in
    let long = c.if-columns-items.false in
    rw c.in_ok-push.ensures.items (along_more IsCellIn c.loop-i.i c.args.columns.now c.args.items.now _ c.index-items-i.result c.loop-i.cells.items c.in-Some.cell
    c.index-items-i.is below (omega (arith, below, long)) c.loop-i.invariant seen)
