use Rattle.std.proofs.Common.{refl}
use Rattle.snb_graph_rows.proofs.PairLemmas.{pairs_in_range}
use Rattle.snb_graph_rows.proofs.index.Index.pairs.Goals as goal

pub returns : goal.returns
returns c = rw (c.range.ensures.between c.new.ensures.exhausted, c.new.ensures.start, c.new.ensures.end, ← c.self.view_is) (pairs_in_range c.self.inside.map.entries c.args.of 18446744073709551615 c.self.invariant refl)
