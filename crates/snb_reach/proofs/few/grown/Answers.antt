use Rattle.std.proofs.Common.{◌≡◌, suc, ◌-◌, arith}
use Rattle.snb_reach.proofs.FewLemmas.{grown_met}
use Rattle.snb_reach.proofs.few.grown.Goals as goal

pub leveled-requires-clause-among : goal.leveled-requires-clause-among
leveled-requires-clause-among c = rw c.as_slice.ensures.value (λ k d low. (c.order.ensures.same _).1 (c.in_ok-ids.ensures.among k d low))

pub returns : goal.returns
returns c =
    let up : c.args.level ≡ suc (c.args.level - 1) = omega (arith, c.requires.above) in
    grown_met c.args.graph.now c.args.start c.args.level (c.args.level - 1) c.args.met.now c.in_ok-ids.ids.items up c.requires.met c.in_ok-ids.ensures c.as_slice.result.now c.in_ok-all.all.items
    (rw c.as_slice.ensures.value c.order.ensures.same) c.in_ok-all.ensures.rises c.in_ok-all.ensures.placed c.in_ok-all.ensures.all
