use Rattle.snb_graph_links.proofs.RunLemmas.{head_is}
use Rattle.snb_graph_links.proofs.runs.Runs.heads.Goals as goal

pub returns-clause-keys : goal.returns-clause-keys
returns-clause-keys c q = rw (c.as_slice.ensures.value, ← c.self.view_is) (head_is c.self.inside.heads.items c.self.inside.pairs.items q)
