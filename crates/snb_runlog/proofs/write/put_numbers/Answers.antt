use Rattle.std.proofs.Common.{◌∙◌, ◌++◌, ◌∷◌, List, ap, get_or, ℕ}
use Rattle.std.specs.Fmt.{decimal}
use Rattle.snb_runlog.proofs.WriteFacts.{bar_alone, on_err, some_before, some_within}
use Rattle.snb_runlog.proofs.write.put_numbers.Goals as goal

pub returns-in_err-extend_from_slice-clause-err : goal.returns-in_err-extend_from_slice-clause-err
returns-in_err-extend_from_slice-clause-err c =
    on_err c.from_residual.result _
    (some_before (λ n. 124 ∷ decimal n) c.args.numbers.now c.loop-number.number-index c.args.to.now.items c.extend_from_slice.new.self.items (c.in_err-extend_from_slice.ensures.items ∙ c.loop-number.invariant))

pub returns-in_err-put_number-clause-err : goal.returns-in_err-put_number-clause-err
returns-in_err-put_number-clause-err c =
    let mid = c.loop-number.to.items in
    let barred = c.in_ok-extend_from_slice.ensures.items ∙ ap (λ (t : List ℕ). mid ++ t) c.as_bytes.ensures.value in
    on_err c.from_residual-in_err-put_number.result _
    (some_within (λ n. 124 ∷ decimal n) c.args.numbers.now c.loop-number.number-index 0 c.args.to.now.items mid c.put_number.new.to.items c.loop-number-test.true c.loop-number.invariant
    (bar_alone mid c.extend_from_slice.new.self.items c.put_number.new.to.items (get_or c.args.numbers.now c.loop-number.number-index 0) barred c.in_err-put_number.ensures.err))
