use Rattle.snb_graph_adjacency.proofs.LinkLemmas.{lost_some}
use Rattle.snb_graph_adjacency.proofs.indexes.Indexes.drop_some.Goals as goal

pub returns-in-Some-clause-gone : goal.returns-in-Some-clause-gone
returns-in-Some-clause-gone c = lost_some c.args.self.now c.drop_link.new.self _ c.args.link c.in-Some.is c.drop_link.ensures.gone
