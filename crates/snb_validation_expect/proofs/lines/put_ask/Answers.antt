use Rattle.snb_validation_expect.proofs.Plain.{ask_low, ask_plain}
use Rattle.snb_validation_expect.proofs.lines.put_ask.Goals as goal

pub put_value-requires-clause-plain : goal.put_value-requires-clause-plain
put_value-requires-clause-plain c = rw c.in_ok-value.ensures.value (ask_plain c.args.query.now c.args.reply.now)

pub put_value-requires-clause-low : goal.put_value-requires-clause-low
put_value-requires-clause-low c = rw c.in_ok-value.ensures.value (ask_low c.args.query.now c.args.reply.now)
