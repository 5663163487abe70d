use Rattle.std.proofs.Common.{ap}
use Rattle.std.proofs.lemmas.Result.{on_err_weaker}
use Rattle.snb_base.specs.declared.outbox.Channel.TheVariants.{Answers, Cases, Final, Log, Screen}
use Rattle.snb_base.proofs.Laws.{counted_after}
use Rattle.snb_tool_texts.specs.Answers.{bytes_in}
use Rattle.snb_tool_outcome.specs.Endings.{bytes_of}
use Rattle.snb_tool_outcome.proofs.Writing.{stopped_in_answers, stopped_in_cases, stopped_in_finals, stopped_in_log, stopped_in_screen}
use Rattle.snb_tool_outcome.proofs.delivery.deliver.Goals as goal

pub returns-in-Err-clause-err : goal.returns-in-Err-clause-err
returns-in-Err-clause-err g c =
    let h = c.in-Err.ensures.err in
    stopped_in_log (bytes_of c.args.output.now) _ h.0 _ _ c.deref.ensures.value h.2

pub returns-in-Err-write_each-clause-err : goal.returns-in-Err-write_each-clause-err
returns-in-Err-write_each-clause-err g c =
    let h = c.in-Err-write_each.ensures.err in
    stopped_in_answers (bytes_of c.args.output.now) _ _ h.0 _ _ _ c.deref.ensures.value (ap bytes_in c.deref-2.ensures.value) c.in_default.ensures.ok h.2

pub returns-in-Err-write_all-clause-err : goal.returns-in-Err-write_all-clause-err
returns-in-Err-write_all-clause-err g c =
    let h = c.in-Err-write_all.ensures.err in
    stopped_in_finals (bytes_of c.args.output.now) _ _ _ h.0 _ _ _ _ c.deref.ensures.value (ap bytes_in c.deref-2.ensures.value) c.deref-3.ensures.value c.in_default.ensures.ok c.in_default-write_each.ensures.ok h.2

pub returns-in-Err-write_all-2-clause-err : goal.returns-in-Err-write_all-2-clause-err
returns-in-Err-write_all-2-clause-err g c =
    let h = c.in-Err-write_all-2.ensures.err in
    stopped_in_cases (bytes_of c.args.output.now) _ _ _ _ h.0 _ _ _ _ _ c.deref.ensures.value (ap bytes_in c.deref-2.ensures.value) c.deref-3.ensures.value c.deref-4.ensures.value c.in_default.ensures.ok c.in_default-write_each.ensures.ok
    c.in_default-write_all.ensures.ok h.2

pub returns-clause-err : goal.returns-clause-err
returns-clause-err g c =
    on_err_weaker c.write_all-4.result
    (λ h. stopped_in_screen (bytes_of c.args.output.now) _ _ _ _ _ h.0 _ _ _ _ _ _ c.deref.ensures.value (ap bytes_in c.deref-2.ensures.value) c.deref-3.ensures.value c.deref-4.ensures.value c.deref-5.ensures.value
    c.in_default.ensures.ok c.in_default-write_each.ensures.ok c.in_default-write_all.ensures.ok c.in_default-write_all-2.ensures.ok h.2)
    c.write_all-4.ensures.err

pub returns-in-Err-clause-sure : goal.returns-in-Err-clause-sure
returns-in-Err-clause-sure g c = λ rooms r fit. c.in-Err.ensures.sure rooms r (rw c.deref.ensures.value (fit Log))

pub returns-in-Err-write_each-clause-sure : goal.returns-in-Err-write_each-clause-sure
returns-in-Err-write_each-clause-sure g c = λ rooms r fit.
    c.in-Err-write_each.ensures.sure _ (c.in_default.ensures.left rooms r (rw c.deref.ensures.value (fit Log))) (rw (ap bytes_in c.deref-2.ensures.value) (fit Answers))

pub returns-in-Err-write_all-clause-sure : goal.returns-in-Err-write_all-clause-sure
returns-in-Err-write_all-clause-sure g c = λ rooms r fit.
    c.in-Err-write_all.ensures.sure _
    (c.in_default-write_each.ensures.left _ (c.in_default.ensures.left rooms r (rw c.deref.ensures.value (fit Log))) (rw (ap bytes_in c.deref-2.ensures.value) (fit Answers)))
    (rw c.deref-3.ensures.value (fit Final))

pub returns-in-Err-write_all-2-clause-sure : goal.returns-in-Err-write_all-2-clause-sure
returns-in-Err-write_all-2-clause-sure g c = λ rooms r fit.
    c.in-Err-write_all-2.ensures.sure _
    (c.in_default-write_all.ensures.left _
    (c.in_default-write_each.ensures.left _ (c.in_default.ensures.left rooms r (rw c.deref.ensures.value (fit Log))) (rw (ap bytes_in c.deref-2.ensures.value) (fit Answers)))
    (rw c.deref-3.ensures.value (fit Final)))
    (rw c.deref-4.ensures.value (fit Cases))

pub returns-clause-sure : goal.returns-clause-sure
returns-clause-sure g c = λ rooms r fit.
    c.write_all-4.ensures.sure _
    (c.in_default-write_all-2.ensures.left _
    (c.in_default-write_all.ensures.left _
    (c.in_default-write_each.ensures.left _ (c.in_default.ensures.left rooms r (rw c.deref.ensures.value (fit Log))) (rw (ap bytes_in c.deref-2.ensures.value) (fit Answers)))
    (rw c.deref-3.ensures.value (fit Final)))
    (rw c.deref-4.ensures.value (fit Cases)))
    (rw c.deref-5.ensures.value (fit Screen))

pub returns-in-Err-write_each-clause-counted : goal.returns-in-Err-write_each-clause-counted
returns-in-Err-write_each-clause-counted g c = counted_after c.in_default.ensures.counted c.in-Err-write_each.ensures.counted

pub returns-in-Err-write_all-clause-counted : goal.returns-in-Err-write_all-clause-counted
returns-in-Err-write_all-clause-counted g c =
    counted_after (counted_after c.in_default.ensures.counted c.in_default-write_each.ensures.counted) c.in-Err-write_all.ensures.counted

pub returns-in-Err-write_all-2-clause-counted : goal.returns-in-Err-write_all-2-clause-counted
returns-in-Err-write_all-2-clause-counted g c =
    counted_after (counted_after (counted_after c.in_default.ensures.counted c.in_default-write_each.ensures.counted) c.in_default-write_all.ensures.counted) c.in-Err-write_all-2.ensures.counted

pub returns-clause-counted : goal.returns-clause-counted
returns-clause-counted g c =
    counted_after
    (counted_after (counted_after (counted_after c.in_default.ensures.counted c.in_default-write_each.ensures.counted) c.in_default-write_all.ensures.counted) c.in_default-write_all-2.ensures.counted)
    c.write_all-4.ensures.counted
