use Rattle.std.proofs.Common.{◌∙◌, ◌++◌, ◌∷◌, [], List, ap, sym, append_assoc, arith, map}
use Rattle.std.specs.List.{range_with_len}
use Rattle.std.proofs.lemmas.List.FromFn.{map-range_with_len_more}
use Rattle.snb_plan.specs.declared.instances.Instance.{Instance}
use Rattle.snb_plan.specs.Instances.{instance_of}
use Rattle.snb_plan.proofs.instances.push_instances.Goals as goal

pub loop-k-preserved : goal.loop-k-preserved
loop-k-preserved c =
    let one = instance_of c.of-frequency.result c.args.query in
    let old = c.args.instances.now.items in
    let done = map one (range_with_len 0 c.loop-k.k) in
    c.in_ok-push.ensures.items
    ∙ ap (λ (xs : List Instance). xs ++ one c.loop-k.k ∷ []) c.loop-k.invariant
    ∙ append_assoc old done (one c.loop-k.k ∷ [])
    ∙ ap (λ (xs : List Instance). old ++ xs) (sym (map-range_with_len_more one 0 c.loop-k.k c.loop-k.k (omega arith)))
