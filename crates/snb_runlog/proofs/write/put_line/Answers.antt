use Rattle.std.proofs.Common.{◌++◌, codes}
use Rattle.snb_history.specs.RunTexts.{count_text}
use Rattle.snb_runlog.specs.Writing.{cells_text}
use Rattle.snb_runlog.proofs.WriteFacts.{appended_both, appends_after, appends_more, on_err}
use Rattle.snb_runlog.proofs.write.put_line.Goals as goal

pub returns-in_err-put_numbers-clause-err : goal.returns-in_err-put_numbers-clause-err
returns-in_err-put_numbers-clause-err c =
    let first = c.args.first.now in
    let cells = cells_text c.args.numbers.now in
    let count = count_text c.args.count in
    let old = c.args.to.now.items in
    let new = c.put_numbers.new.to.items in
    on_err c.from_residual-in_err-put_numbers.result _
    (appends_more old new (first ++ cells ++ count) (codes "\n")
    (appends_more old new (first ++ cells) count
    (appends_after old c.extend_from_slice.new.self.items new first cells c.in_ok-extend_from_slice.ensures.items c.in_err-put_numbers.ensures.err)))

pub returns-in_err-put_count-clause-err : goal.returns-in_err-put_count-clause-err
returns-in_err-put_count-clause-err c =
    let first = c.args.first.now in
    let cells = cells_text c.args.numbers.now in
    let count = count_text c.args.count in
    let old = c.args.to.now.items in
    let new = c.put_count.new.to.items in
    let before = appended_both old c.extend_from_slice.new.self.items c.put_numbers.new.to.items first cells c.in_ok-extend_from_slice.ensures.items c.in_ok-put_numbers.ensures.ok in
    on_err c.from_residual-in_err-put_count.result _
    (appends_more old new (first ++ cells ++ count) (codes "\n") (appends_after old c.put_numbers.new.to.items new (first ++ cells) count before c.in_err-put_count.ensures.err))
