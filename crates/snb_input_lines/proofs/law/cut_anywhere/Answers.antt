use Rattle.snb_input_lines.proofs.CutFacts.{cut_any}
use Rattle.snb_input_lines.proofs.law.cut_anywhere.Goals as goal

pub returns : goal.returns
returns c = cut_any
