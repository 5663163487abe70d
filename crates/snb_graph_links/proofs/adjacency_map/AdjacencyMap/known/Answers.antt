use Rattle.snb_graph_links.proofs.HasLemmas.{frozen_pair}
use Rattle.snb_graph_links.proofs.adjacency_map.AdjacencyMap.known.Goals as goal

pub returns : goal.returns
returns c = rw (← c.self.view_is) (frozen_pair _ c.self.invariant)
