use Rattle.snb_validation_cases.proofs.CaseFacts.{bad_line}
use Rattle.snb_validation_cases.proofs.read.line_of.Goals as goal

pub returns-in-Err-Bad : goal.returns-in-Err-Bad
returns-in-Err-Bad c line h =
    let bad = bad_line c.as_bytes.result.now c.read_line.result c.in-Err-Bad.field-0 c.in-Err-Bad.field-0-0 c.read_line.ensures.bad c.in-Err-Bad.is c.in-Err-Bad.field-0-is in
    c.one_bad_line.ensures.none c.args.text.now line.t line.t_d line.op c.in-Err-Bad.field-0-0 h (rw c.as_bytes.ensures.value at bad)
