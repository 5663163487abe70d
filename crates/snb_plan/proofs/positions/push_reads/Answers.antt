use Rattle.std.proofs.Common.{◌∙◌, ◌-◌, ◌++◌, ◌∷◌, [], List, ℕ, ap, sym, append_assoc, arith, take, get_or}
use Rattle.snb_plan.specs.declared.positions.Position.{Position}
use Rattle.snb_plan.specs.Instances.{no_instance, read_positions}
use Rattle.snb_plan.proofs.Positioning.{reads_next, position, with_t}
use Rattle.snb_plan.proofs.positions.push_reads.Goals as goal

pub loop-place-preserved : goal.loop-place-preserved
loop-place-preserved c =
    let old = c.args.positions.now.items in
    let reads = c.args.reads.now in
    let lane = c.args.lane in
    let place = c.loop-place.place in
    let within = c.requires.reads place no_instance c.loop-place-test.true in
    let done = read_positions old lane 0 (take place reads) in
    let at = (get_or reads place no_instance).at in
    let same = with_t old done c.loop-place.positions.items (at - 1) c.index-with.result.now c.loop-place.invariant
    (let low = within.0 in let high = within.1 in omega (arith, low, high)) c.index-with.ensures in
    c.in_ok-push.ensures.items
    ∙ ap (λ (xs : List Position). xs ++ position c.index-with.result.now.t lane place ∷ []) c.loop-place.invariant
    ∙ append_assoc old done (position c.index-with.result.now.t lane place ∷ [])
    ∙ ap (λ (t : ℕ). old ++ (done ++ position t lane place ∷ [])) same
    ∙ ap (λ (xs : List Position). old ++ xs) (sym (reads_next old lane reads place no_instance c.loop-place-test.true))
