use Rattle.std.proofs.Common.{drop}
use Rattle.snb_graph_links.proofs.PairLemmas.{IsJoinedSoFar}
use Rattle.snb_graph_links.proofs.adjacency_map.joined.Given as goal

abbrev pub invariant-loop-of : goal.invariant-loop-of
invariant-loop-of l = IsJoinedSoFar l.frozen l.added.entries l.whole.entries (drop l.of-index l.of-items)
