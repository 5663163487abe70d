use Rattle.std.proofs.Common.{◌∙◌, sym, ap, refl}
use Rattle.std.specs.Ordering.{nat_cmp}
use Rattle.std.specs.BTreeMap.{insert_entry}
use Rattle.std.specs.Option.{is_some}
use Rattle.snb_graph_links.proofs.PairLemmas.{puts_from, puts_same, pairs_at_some, pairs_at_none}
use Rattle.snb_graph_links.proofs.adjacency_map.put.Goals as goal
use Rattle.std.proofs.lemmas.Result.{on_err_weaker, on_ok_weaker}

pub put_pair-requires-clause-rises : goal.put_pair-requires-clause-rises
put_pair-requires-clause-rises c = rw (pairs_at_some c.args.map.now.entries c.args.of c.in-Some.pairs.now c.in-Some.ensures.value) at c.requires.rises

pub put_pair-requires-clause-absent : goal.put_pair-requires-clause-absent
put_pair-requires-clause-absent c = rw (pairs_at_some c.args.map.now.entries c.args.of c.in-Some.pairs.now c.in-Some.ensures.value) at c.requires.absent

-- the number had pairs: its vector takes one more
pub returns-in-Some-clause-ok : goal.returns-in-Some-clause-ok
returns-in-Some-clause-ok c =
    let had = pairs_at_some c.args.map.now.entries c.args.of c.in-Some.pairs.now c.in-Some.ensures.value in
    on_ok_weaker c.put_pair.result (λ is. puts_from _ _ c.args.of c.put_pair.new.pairs _ (is ∙ ap (λ ps. insert_entry nat_cmp ps c.args.id c.args.date) (sym had)) ((c.get_mut.follows.holds c.put_pair.new.pairs).3 (sym (ap is_some c.in-Some.ensures.value))).0) c.put_pair.ensures.ok

pub returns-in-Some-clause-err : goal.returns-in-Some-clause-err
returns-in-Some-clause-err c =
    let had = pairs_at_some c.args.map.now.entries c.args.of c.in-Some.pairs.now c.in-Some.ensures.value in
    on_err_weaker c.put_pair.result (λ is. puts_same _ _ c.args.of c.put_pair.new.pairs (is ∙ sym had) ((c.get_mut.follows.holds c.put_pair.new.pairs).3 (sym (ap is_some c.in-Some.ensures.value))).0) c.put_pair.ensures.err

-- the number had none: it gets a vector
pub returns-clause-ok : goal.returns-clause-ok
returns-clause-ok c =
    let none = pairs_at_none c.args.map.now.entries c.args.of c.in_default.ensures.value in
    let updates = rw c.get_mut.follows.holds-at-none at c.in_ok-insert.ensures.updates.0 in
    puts_from c.args.map.now.entries _ c.args.of c.push.new.self _ (c.in_ok-push.ensures.items ∙ rw (c.new-pairs.ensures.items, none) refl) updates
