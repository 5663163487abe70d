use Rattle.snb_input_lines.proofs.Laws.{lines_whole}
use Rattle.snb_input_lines.proofs.Laws.{joins}
use Rattle.snb_input_lines.proofs.law.end_joins.Goals as goal

pub returns : goal.returns
returns g c grammar text = joins (g.G.Grammar.language grammar) _ _ _ (lines_whole text)
