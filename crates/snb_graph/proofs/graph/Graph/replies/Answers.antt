use Rattle.snb_graph_links.specs.Pairs.{rest}
use Rattle.snb_graph.proofs.WalkLemmas.{replies_walk}
use Rattle.snb_graph.proofs.graph.Graph.replies.Goals as goal

pub returns : goal.returns
returns c = rw (← c.self.view_is) (replies_walk c.self.inside.tables.rows c.self.inside.links c.self.invariant.indexed c.args.message (rest c.pairs.result) c.pairs.ensures)
