use Rattle.snb_history.specs.RunTexts.{header_line, header_of}
use Rattle.snb_runlog.specs.Writing.{logged_text}
use Rattle.snb_runlog.proofs.WriteFacts.{appends_after, appends_more, on_err, on_err_weaker}
use Rattle.snb_runlog.proofs.write.write_log.Goals as goal

pub returns-in_err-write_header-clause-err : goal.returns-in_err-write_header-clause-err
returns-in_err-write_header-clause-err c =
    on_err c.from_residual.result _ (appends_more c.args.to.now.items c.write_header.new.to.items (header_line (header_of c.args.workers c.args.operations)) (logged_text c.args.logged.now) c.in_err-write_header.ensures.err)

pub returns-clause-err : goal.returns-clause-err
returns-clause-err c =
    on_err_weaker c.write_lines.result _ _
    (appends_after c.args.to.now.items c.write_header.new.to.items c.write_lines.new.to.items (header_line (header_of c.args.workers c.args.operations)) (logged_text c.args.logged.now) c.in_ok-write_header.ensures.ok)
    c.write_lines.ensures.err
