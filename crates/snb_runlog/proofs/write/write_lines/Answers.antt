use Rattle.snb_history.specs.RunTexts.{logged_line}
use Rattle.snb_runlog.proofs.WriteFacts.{on_err, some_within}
use Rattle.snb_runlog.proofs.write.write_lines.Goals as goal

pub returns-in_err-write_line-clause-err : goal.returns-in_err-write_line-clause-err
returns-in_err-write_line-clause-err c =
    on_err c.from_residual.result _
    (some_within logged_line c.args.logged.now c.loop-one.one-index _ c.args.to.now.items c.loop-one.to.items c.write_line.new.to.items c.loop-one-test.true c.loop-one.invariant c.in_err-write_line.ensures.err)
