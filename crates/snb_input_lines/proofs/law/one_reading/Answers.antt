use Rattle.snb_input_lines.proofs.Laws.{one_reading}
use Rattle.snb_input_lines.proofs.law.one_reading.Goals as goal

pub returns : goal.returns
returns g c grammar exact = one_reading (g.G.Grammar.language grammar) exact
