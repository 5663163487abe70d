use Rattle.snb_graph_rows.proofs.PairLemmas.{index_dropped, pair_dropped}
use Rattle.snb_graph_rows.proofs.index.Index.drop_pair.Goals as goal

pub invariant_of-self : goal.invariant_of-self
invariant_of-self c = rw c.remove.ensures.entries (index_dropped c.self.inside.map.entries c.args.of c.args.id c.self.invariant (rw c.remove.ensures.entries at c.remove.ensures.ordered))

pub returns : goal.returns
returns c = rw (c.remove.ensures.entries, ← c.self.view_is) (pair_dropped c.self.inside.map.entries c.args.of c.args.id c.self.invariant.rises (rw c.remove.ensures.entries at c.remove.ensures.ordered))
