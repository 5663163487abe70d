use Rattle.std.proofs.Common.{Some, ap, get_or, sym, ◌∙◌}
use Rattle.snb_graph_maps.proofs.ZipLemmas.{found_beside}
use Rattle.snb_graph_maps.proofs.sorted.Sorted.hinted.Goals as goal

pub returns-in-Some : goal.returns-in-Some
returns-in-Some g c =
    let ks = c.self.inside.keys.items in
    let vs = c.self.inside.values.items in
    let v = c.index-values-at.result in
    let hit = rw c.as_slice.ensures.value at c.in-Some.ensures in
    rw (← c.self.view_is)
    (found_beside g.K.Ord.cmp g.met.K.Ord.total g.met.K.Apart.same_key ks vs c.args.key.now c.in-Some.at v c.self.invariant (rw (← c.self.view_is) at c.requires) hit.0 hit.1
    ∙ ap (λ x. Some x) (sym (c.index-values-at.is ∙ ap (λ xs. get_or xs c.in-Some.at v) c.as_slice-values.ensures.value)))
