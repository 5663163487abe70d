use Rattle.std.proofs.Common.{[]}
use Rattle.snb_tool_words.specs.Taken.{given_of}
use Rattle.snb_tool_words.proofs.LineLemmas.{err_line, ok_line}
use Rattle.snb_tool_words.proofs.line.line_of.Goals as goal

pub returns-in_err-given-in-len1-up : goal.returns-in_err-given-in-len1-up
returns-in_err-given-in-len1-up c =
    rw c.from_residual.ensures
    (err_line c.args.words.now (record { ref_ptr = (0, 0); now = [] }) c.plain_count.result c.in-len1-up.len_at_least c.plain_count.ensures.plain c.plain_count.ensures.apart
    (rw c.split_at.ensures.back at c.in_err-given-in-len1-up.ensures))

pub returns-in_ok-given-in-len1-up : goal.returns-in_ok-given-in-len1-up
returns-in_ok-given-in-len1-up c =
    rw c.split_at.ensures.front
    (ok_line c.args.words.now (record { ref_ptr = (0, 0); now = [] }) c.plain_count.result c.in-len1-up.len_at_least c.plain_count.ensures.plain (given_of c.in_ok-given-in-len1-up.given)
    (rw c.split_at.ensures.back at c.in_ok-given-in-len1-up.ensures))
