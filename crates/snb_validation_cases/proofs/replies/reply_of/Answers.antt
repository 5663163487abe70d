use Rattle.snb_validation_cases.proofs.OneFacts.{no_own, no_tail}
use Rattle.snb_validation_cases.proofs.replies.reply_of.Goals as goal

pub returns-in_default-2 : goal.returns-in_default-2
returns-in_default-2 c =
    let none = rw c.in_default-2.is at c.in_ok-own.ensures.found in
    no_own c.args.query.now c.args.items.now c.first-item.result c.first-item.is c.in-len1-up.len_at_least none

pub returns-in_default-3 : goal.returns-in_default-3
returns-in_default-3 c =
    let is = rw c.in-Some.is at c.in_ok-own.ensures.found in
    let none = rw c.in_default-3.is at c.in_ok-tail.ensures in
    no_tail c.args.query.now c.args.items.now c.first-item.result c.in-Some.own c.first-item.is c.in-len1-up.len_at_least is none
