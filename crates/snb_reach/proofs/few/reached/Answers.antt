use Rattle.std.proofs.Common.{◌≡◌, ℕ, ◌+◌, ◌-◌, List, [], ◌∷◌, ◌++◌, ap, ◌∙◌, arith}
use Rattle.snb_reach.proofs.FewLemmas.{first_met}
use Rattle.snb_reach.proofs.few.reached.Goals as goal

pub loop-done-init : goal.loop-done-init
loop-done-init c = first_met c.args.graph.now c.args.start _ c.requires.from (c.in_ok-push.ensures.items ∙ ap (λ (l : List (ℕ × ℕ)). l ++ (c.args.start, 0) ∷ []) c.new-met.ensures.items)

pub grown-requires-clause-met : goal.grown-requires-clause-met
grown-requires-clause-met c =
    let same : c.from.result + 1 - 1 ≡ c.loop-done.done = omega (arith, c.from.ensures) in
    rw (same, c.as_slice.ensures.value) c.loop-done.invariant

pub returns : goal.returns
returns c =
    let all : c.loop-done.done ≡ c.args.steps = omega (arith, c.loop-done.auto.done-end, c.loop-done-test.false) in
    rw all at c.loop-done.invariant
