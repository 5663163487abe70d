use Rattle.snb_validation_expect.proofs.Steps.{no_front}
use Rattle.snb_validation_expect.proofs.expect.expect_insert.Goals as goal
use Rattle.snb_base.proofs.Laws.{on_any_err}

pub returns-in_err-put_insert-clause-err : goal.returns-in_err-put_insert-clause-err
returns-in_err-put_insert-clause-err c = on_any_err c.from_residual.result (no_front c.args.to.now.items c.put_insert.new.to.items c.in_err-put_insert.ensures.err)
