use Rattle.std.proofs.Common.{refl}
use Rattle.std.proofs.lemmas.Result.{on_err_weaker}
use Rattle.snb_validation_expect.proofs.ReadBack.{asked_back}
use Rattle.snb_validation_expect.proofs.Steps.{no_front}
use Rattle.snb_validation_expect.proofs.expect.expect_ask.Goals as goal
use Rattle.snb_base.proofs.Laws.{on_any_err}

pub returns-clause-put : goal.returns-clause-put
returns-clause-put g c =
    let laws = c.answers_have_columns.ensures in
    asked_back laws.columns laws.years c.args.graph.now c.known.ensures c.args.query.now c.in_ok-reply.reply c.args.to.now.items c.put_ask.new.to.items c.put_ask.result
    c.in_ok-reply.ensures c.put_ask.ensures.ok c.put_ask.ensures.text c.put_ask.ensures.types

pub returns-clause-err : goal.returns-clause-err
returns-clause-err g c = on_err_weaker c.put_ask.result (no_front c.args.to.now.items c.put_ask.new.to.items) c.put_ask.ensures.err

pub returns-in_err-reply-clause-err : goal.returns-in_err-reply-clause-err
returns-in_err-reply-clause-err g c = on_any_err c.from_residual.result (no_front c.args.to.now.items c.args.to.now.items refl)
