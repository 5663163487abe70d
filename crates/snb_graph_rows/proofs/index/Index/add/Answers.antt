use Rattle.snb_graph_rows.proofs.PairLemmas.{index_added, pair_added}
use Rattle.snb_graph_rows.proofs.index.Index.add.Goals as goal

pub invariant_of-self-2 : goal.invariant_of-self-2
invariant_of-self-2 c = rw c.in_ok-insert.ensures.entries (index_added c.self.inside.map.entries c.args.of c.args.id c.args.date c.self.invariant (rw (← c.self.view_is) at c.requires) c.ranges.id.fits (rw c.in_ok-insert.ensures.entries at c.in_ok-insert.ensures.ordered))

pub returns-clause-ok : goal.returns-clause-ok
returns-clause-ok c = rw (c.in_ok-insert.ensures.entries, ← c.self.view_is) (pair_added c.self.inside.map.entries c.args.of c.args.id c.args.date (rw (← c.self.view_is) at c.requires))
