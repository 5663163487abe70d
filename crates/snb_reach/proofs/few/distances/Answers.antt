use Rattle.std.proofs.Common.{◌≡◌, suc, ◌-◌, refl, arith}
use Rattle.snb_reach.proofs.FewLemmas.{next_distances, start_distances}
use Rattle.snb_reach.proofs.LevelLemmas.{none_met, one_key}
use Rattle.snb_reach.proofs.few.distances.Goals as goal

pub returns-in_default : goal.returns-in_default
returns-in_default c = none_met c.args.graph.now c.args.start c.args.steps c.new.result c.new.ensures.empty (λ h. let e = c.in_default.ensures.held.1 h in cc)

pub returns-then-steps-eq0 : goal.returns-then-steps-eq0
returns-then-steps-eq0 c =
    start_distances c.args.graph.now c.args.start _ c.args.steps c.if-steps-eq0.true (c.in-Some.ensures.held.0 refl)
    (one_key c.new-met.result c.insert.new.self c.args.start 0 c.new-met.ensures.empty c.in_ok-insert.ensures.updates.0)

pub mapped-requires : goal.mapped-requires
mapped-requires c = record { among = rw (c.as_slice-2.ensures.value, c.as_slice-3.ensures.value) (rw c.as_slice.ensures.value at c.in_ok-ids.ensures.among) }

pub returns : goal.returns
returns c =
    let level = c.from-level.result in
    let same : level ≡ c.args.steps = c.from-level.ensures in
    let up : level ≡ suc (c.args.steps - 1) = omega (arith, same, c.if-steps-eq0.false) in
    rw same at (next_distances c.args.graph.now c.args.start level (c.args.steps - 1) c.in_ok-near.near.items c.in_ok-ids.ids.items up c.in_ok-near.ensures (rw c.as_slice.ensures.value at c.in_ok-ids.ensures) _
    (rw (c.as_slice-2.ensures.value, c.as_slice-3.ensures.value) at c.in_ok-met.ensures.placed) (rw c.as_slice-3.ensures.value at c.in_ok-met.ensures.all))
