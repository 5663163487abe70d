use Rattle.snb_graph_integrity.proofs.ChainLemmas.{IsChecking}
use Rattle.snb_graph_integrity.proofs.chains.check_chains.Given as goal

abbrev pub invariant-loop-row : goal.invariant-loop-row
invariant-loop-row l = IsChecking l.tables.rows l.row-iterator
