use Rattle.snb_input_lines.proofs.CutFacts.{lines_known}
use Rattle.snb_input_lines.proofs.ended.are_utf8.Goals as goal

pub returns-then-is_utf8 : goal.returns-then-is_utf8
returns-then-is_utf8 c known =
    let last = c.in-Some.ensures in
    lines_known c.args.front.now c.args.back.now c.in-Some.end last.0.high last.0.after last.1 (c.is_utf8.ensures.0 c.if-is_utf8.true) (c.is_utf8-then-is_utf8.ensures.0 known)
