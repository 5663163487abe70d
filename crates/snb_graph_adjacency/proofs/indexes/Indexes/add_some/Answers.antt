use Rattle.snb_graph_adjacency.proofs.LinkLemmas.{gained_some}
use Rattle.snb_graph_adjacency.proofs.indexes.Indexes.add_some.Goals as goal
use Rattle.std.proofs.lemmas.Result.{on_ok_weaker}

pub returns-in-Some-clause-ok : goal.returns-in-Some-clause-ok
returns-in-Some-clause-ok c = on_ok_weaker c.add.result (gained_some c.args.self.now c.add.new.self _ c.args.link c.in-Some.is) c.add.ensures.ok
