use Rattle.std.proofs.Common.{◌≡◌, ◌+◌, ◌-◌, [], ◌∷◌, ◌++◌, ap, ◌∙◌, ℕ, List, arith, refl}
use Rattle.snb_reach.proofs.LevelLemmas.{first_grown, grown_distances, none_met, one_key}
use Rattle.snb_reach.proofs.reach.distances.Goals as goal

pub returns-in_default : goal.returns-in_default
returns-in_default c = none_met c.args.graph.now c.args.start c.args.steps c.new-met.result c.new-met.ensures.empty (λ h. let e = c.in_default.ensures.held.1 h in cc)

pub loop-done-init : goal.loop-done-init
loop-done-init c =
    first_grown c.args.graph.now c.args.start _ _ (c.in-Some.ensures.held.0 refl) (one_key c.new-met.result c.insert.new.self c.args.start 0 c.new-met.ensures.empty c.in_ok-insert.ensures.updates.0)
    (c.in_ok-push.ensures.items ∙ ap (λ (l : List ℕ). l ++ c.args.start ∷ []) c.new-last.ensures.items)

pub returns : goal.returns
returns c =
    let all : c.loop-done.done ≡ c.args.steps = omega (arith, c.loop-done.auto.done-end, c.loop-done-test.false) in
    grown_distances c.args.graph.now c.args.start c.args.steps _ c.loop-done.last.items (rw all at c.loop-done.invariant)

pub grow-requires-clause-grown : goal.grow-requires-clause-grown
grow-requires-clause-grown c =
    let same : c.from.result + 1 - 1 ≡ c.loop-done.done = omega (arith, c.from.ensures) in
    rw (same, c.deref.ensures.value) c.loop-done.invariant
