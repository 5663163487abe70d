use Rattle.std.proofs.Common.{refl}
use Rattle.snb_validation_cases.specs.Replies.{AreReply}
use Rattle.snb_validation_cases.proofs.TakeFacts.{closed, each_cons, found_is, takes_array}
use Rattle.snb_validation_cases.proofs.taken.reply_at.Goals as goal

pub returns : goal.returns
returns c =
    let query = c.args.query.now in
    let reply = c.in_ok-reply_with_tail.field-0 in
    let answers = each_cons 4 _ _ (λ ds. AreReply query ds reply) c.opens.new.reader c.answer_at.new.reader c.tail_at.new.reader (found_is _ _ _ c.in-Some.is c.in_ok-own.ensures.found)
    (found_is _ _ _ c.in-Some-2.is c.in_ok-tail.ensures) (λ d ds own tail. record { own = c.in-Some.own; tail = c.in-Some-2.tail.items; is = c.in_ok-reply_with_tail.ensures; answers = (own, tail) }) in
    takes_array 4 (λ ds. AreReply query ds reply) c.args.reader.now c.tail_at.new.reader c.take_end_array.new.self (c.opens.new.reader, c.if-not-opens.ensures refl, answers)
    (closed c.tail_at.new.reader c.take_end_array.new.self c.if-not-take_end_array.ensures)
