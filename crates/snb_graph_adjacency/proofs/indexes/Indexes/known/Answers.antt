use Rattle.snb_graph_adjacency.proofs.LinkLemmas.{frozen_among}
use Rattle.snb_graph_adjacency.proofs.indexes.Indexes.known.Goals as goal

pub returns : goal.returns
returns c = frozen_among c.args.self.now c.known.ensures c.known-2.ensures c.known-3.ensures c.known-4.ensures c.known-5.ensures c.known-6.ensures c.known-7.ensures
