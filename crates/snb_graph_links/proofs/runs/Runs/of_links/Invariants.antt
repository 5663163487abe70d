use Rattle.snb_graph_links.proofs.LinkRunLemmas.{AreFilled}
use Rattle.snb_graph_links.proofs.runs.Runs.of_links.Given as goal

abbrev pub invariant-loop-of : goal.invariant-loop-of
invariant-loop-of l = AreFilled l.links l.heads.items l.pairs.items l.of-index
