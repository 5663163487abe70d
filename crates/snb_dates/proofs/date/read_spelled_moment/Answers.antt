use Rattle.std.proofs.Common.{arith}
use Rattle.snb_dates.proofs.TextFacts.{moment_parts}
use Rattle.snb_dates.proofs.date.read_spelled_moment.Goals as goal

pub returns-in_err-midnight-clause-spelled : goal.returns-in_err-midnight-clause-spelled
returns-in_err-midnight-clause-spelled c =
    rw c.from_residual.ensures (λ n s.
    let (a, b, day, time, value) = moment_parts c.args.text.now n s in
    c.in_err-midnight.ensures.spelled a (rw c.split_at.ensures.front day))

pub returns-in_err-since-clause-spelled : goal.returns-in_err-since-clause-spelled
returns-in_err-since-clause-spelled c =
    rw c.from_residual-in_err-since.ensures (λ n s.
    let (a, b, day, time, value) = moment_parts c.args.text.now n s in
    c.in_err-since.ensures.spelled b (rw c.split_at.ensures.back time))

pub overflow_add-result : goal.overflow_add-result
overflow_add-result c = let small = c.in_ok-midnight.ensures.last in omega (arith, small, c.from.ensures)
