use Rattle.snb_input_lines.proofs.CutFacts.{lines_whole}
use Rattle.snb_input_lines.proofs.law.lines_are_whole.Goals as goal

pub returns : goal.returns
returns c = lines_whole
