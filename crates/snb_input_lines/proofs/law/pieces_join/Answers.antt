use Rattle.snb_input_lines.proofs.Laws.{cut_any}
use Rattle.snb_input_lines.proofs.Laws.{joins}
use Rattle.snb_input_lines.proofs.law.pieces_join.Goals as goal

pub returns : goal.returns
returns g c grammar text piece = joins (g.G.Grammar.language grammar) _ _ _ (cut_any text piece).0
