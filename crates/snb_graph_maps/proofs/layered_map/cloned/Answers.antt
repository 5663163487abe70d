use Rattle.std.proofs.Common.{◌∙◌, ◌++◌, ap, sym, append_assoc}
use Rattle.snb_graph_maps.proofs.layered_map.cloned.Goals as goal

pub loop-key-preserved : goal.loop-key-preserved
loop-key-preserved g c =
    let all = c.loop-key.all in
    let rest = c.next.new.self in
    rw c.in_ok-push_clones.ensures (append_assoc all _ rest ∙ (ap (λ es. all ++ es) (sym c.in-Some.ensures.steps) ∙ c.loop-key.invariant))
