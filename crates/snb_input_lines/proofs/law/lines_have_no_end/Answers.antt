use Rattle.snb_input_lines.proofs.CutFacts.{lines_no_end}
use Rattle.snb_input_lines.proofs.law.lines_have_no_end.Goals as goal

pub returns : goal.returns
returns c = lines_no_end
