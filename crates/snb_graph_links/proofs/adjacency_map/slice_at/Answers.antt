use Rattle.std.proofs.Common.{◌∙◌, sym}
use Rattle.snb_graph_links.proofs.PairLemmas.{pairs_at_some, pairs_at_none}
use Rattle.snb_graph_links.proofs.adjacency_map.slice_at.Goals as goal

pub returns-in-Some : goal.returns-in-Some
returns-in-Some c = c.as_slice.ensures.value ∙ sym (pairs_at_some c.args.map.now.entries c.args.of c.in-Some.pairs.now c.in-Some.ensures.value)

pub returns-in-None : goal.returns-in-None
returns-in-None c = sym (pairs_at_none c.args.map.now.entries c.args.of c.in-None.ensures.value)
