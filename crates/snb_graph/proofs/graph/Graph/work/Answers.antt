use Rattle.snb_graph_links.specs.Pairs.{rest}
use Rattle.snb_graph.proofs.WalkLemmas.{work_walk}
use Rattle.snb_graph.proofs.graph.Graph.work.Goals as goal

pub returns : goal.returns
returns c = rw (← c.self.view_is) (work_walk c.self.inside.tables.rows c.self.inside.links c.self.invariant.indexed c.args.person (rest c.pairs.result) c.pairs.ensures)
