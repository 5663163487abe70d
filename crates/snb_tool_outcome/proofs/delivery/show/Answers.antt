use Rattle.std.proofs.lemmas.Result.{on_err_weaker}
use Rattle.snb_base.specs.declared.outbox.Channel.TheVariants.{Screen}
use Rattle.snb_tool_outcome.proofs.Writing.{stopped_in_shown}
use Rattle.snb_tool_outcome.proofs.delivery.show.Goals as goal

pub returns-clause-err : goal.returns-clause-err
returns-clause-err g c =
    on_err_weaker c.write_all.result
    (λ h. stopped_in_shown c.args.text.now h.0 _ _ h.2)
    c.write_all.ensures.err

pub returns-clause-sure : goal.returns-clause-sure
returns-clause-sure g c = λ rooms r fit. c.write_all.ensures.sure rooms r (fit Screen)
