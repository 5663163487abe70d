use Rattle.std.proofs.Common.{◌≡◌, ℕ, ◌+◌, ap, sym, subst, ◌∙◌, w64, FitsSigned, to_z, of_z, rules}
use Rattle.std.specs.Prelude.{ℤ, pos, ◌+ℤ◌}
use Rattle.std.proofs.lemmas.Int.{to_z-of_z}
use Rattle.snb_board.specs.Parts.{reached}
use Rattle.snb_board.proofs.Events.{reached-small}
use Rattle.snb_board.proofs.steps.reach_of.Goals as goal
use Rattle.snb_book.proofs.Laws.{next_time, time_fits}

pub overflow_add-result : goal.overflow_add-result
overflow_add-result c =
    let l : ℕ = reached c.args.book.now.schedule c.args.book.now.history in
    let fits : FitsSigned w64 c.completion.result = search rules in
    let is : to_z w64 (of_z w64 c.completion.result) +ℤ pos 1 ≡ pos l = ap (λ (z : ℤ). z +ℤ pos 1) (to_z-of_z w64 c.completion.result fits) ∙ next_time c.completion.result l c.completion.ensures.value in
    subst (λ (z : ℤ). FitsSigned w64 z) (sym is) (time_fits l (reached-small c.args.book.now.schedule c.args.book.now.history))

pub overflow_cast-result : goal.overflow_cast-result
overflow_cast-result c =
    let l : ℕ = reached c.args.book.now.schedule c.args.book.now.history in
    let fits : FitsSigned w64 c.completion.result = search rules in
    let is : to_z w64 (of_z w64 c.completion.result) +ℤ pos 1 ≡ pos l = ap (λ (z : ℤ). z +ℤ pos 1) (to_z-of_z w64 c.completion.result fits) ∙ next_time c.completion.result l c.completion.ensures.value in
    let e : to_z w64 (of_z w64 (to_z w64 (of_z w64 c.completion.result) +ℤ pos 1)) ≡ pos l = to_z-of_z w64 _ (overflow_add-result c) ∙ is in
    let top = reached-small c.args.book.now.schedule c.args.book.now.history in
    rw e (search rules)
