use Rattle.std.proofs.Common.{◌∙◌, sym, ap}
use Rattle.std.specs.Option.{is_some}
use Rattle.snb_graph_links.specs.Pairs.{without, lists_of}
use Rattle.snb_graph_links.proofs.PairLemmas.{puts_from, pairs_at_some, pairs_at_none, takes_nothing}
use Rattle.snb_graph_links.proofs.adjacency_map.take.Goals as goal

pub returns-in-Some : goal.returns-in-Some
returns-in-Some c =
    let had = pairs_at_some c.args.map.now.entries c.args.of c.in-Some.pairs.now c.in-Some.ensures.value in
    puts_from _ _ c.args.of c.drop_pair.new.pairs _ (c.drop_pair.ensures ∙ ap (without c.args.id) (sym had)) ((c.get_mut.follows.holds c.drop_pair.new.pairs).3 (sym (ap is_some c.in-Some.ensures.value))).0

pub returns-in-None : goal.returns-in-None
returns-in-None c =
    let none = pairs_at_none c.args.map.now.entries c.args.of c.in-None.ensures.value in
    rw c.get_mut.follows.holds-at-none (takes_nothing (lists_of c.args.map.now.entries) c.args.of c.args.id none)
