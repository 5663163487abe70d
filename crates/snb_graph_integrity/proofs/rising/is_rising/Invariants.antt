use Rattle.snb_graph_integrity.proofs.RisingLemmas.{IsRisen}
use Rattle.snb_graph_integrity.proofs.rising.is_rising.Given as goal

abbrev pub invariant-loop-key : goal.invariant-loop-key
invariant-loop-key l = IsRisen l.tables.rows l.key-iterator
