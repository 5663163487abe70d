use Rattle.snb_streams.proofs.TextFacts.{line_or_column, lines_are_right, one_bad_line}
use Rattle.snb_streams.proofs.law.one_bad_line.Goals as goal

pub returns : goal.returns
returns c = record { some = line_or_column c.one_fault.ensures.some; one = one_bad_line c.one_fault.ensures.one; none = lines_are_right c.one_fault.ensures.none }
