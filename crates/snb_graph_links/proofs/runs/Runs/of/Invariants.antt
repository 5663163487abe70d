use Rattle.snb_graph_links.proofs.RunLemmas.{IsFilled}
use Rattle.snb_graph_links.proofs.runs.Runs.of.Given as goal

abbrev pub invariant-loop-of : goal.invariant-loop-of
invariant-loop-of l = IsFilled l.map.entries l.heads.items l.pairs.items l.of-iterator
