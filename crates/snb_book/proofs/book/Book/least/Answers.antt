use Rattle.std.proofs.Common.{◌≡◌, ℕ, ◌+◌, ap, sym, subst, ◌∙◌, w64, FitsSigned, to_z, of_z, rules, length}
use Rattle.std.specs.Prelude.{ℤ, pos, ◌+ℤ◌}
use Rattle.std.proofs.lemmas.Int.{to_z-of_z}
use Rattle.snb_schema.specs.declared.limits.TheConstants.{MAX_TIME}
use Rattle.snb_history.specs.Schedule.{step_of}
use Rattle.snb_history.specs.Completion.{is_awaited, least_t}
use Rattle.snb_book.proofs.book.Book.least.Goals as goal
use Rattle.snb_history.proofs.Laws.{least_of-top}
use Rattle.snb_book.proofs.Laws.{next_time, time_fits}

pub overflow_add-result : goal.overflow_add-result
overflow_add-result c =
    let l : ℕ = least_t c.args.self.now.schedule (is_awaited c.args.self.now.schedule c.args.self.now.history) in
    let fits : FitsSigned w64 c.completion.result = search rules in
    let is : to_z w64 (of_z w64 c.completion.result) +ℤ pos 1 ≡ pos l = ap (λ (z : ℤ). z +ℤ pos 1) (to_z-of_z w64 c.completion.result fits) ∙ next_time c.completion.result l c.completion.ensures.value in
    subst (λ (z : ℤ). FitsSigned w64 z) (sym is)
    (time_fits l (least_of-top (λ k. (step_of c.args.self.now.schedule k).t) (MAX_TIME + 1) (is_awaited c.args.self.now.schedule c.args.self.now.history) (length c.args.self.now.schedule.steps)))

pub overflow_cast-result : goal.overflow_cast-result
overflow_cast-result c =
    let l : ℕ = least_t c.args.self.now.schedule (is_awaited c.args.self.now.schedule c.args.self.now.history) in
    let fits : FitsSigned w64 c.completion.result = search rules in
    let is : to_z w64 (of_z w64 c.completion.result) +ℤ pos 1 ≡ pos l = ap (λ (z : ℤ). z +ℤ pos 1) (to_z-of_z w64 c.completion.result fits) ∙ next_time c.completion.result l c.completion.ensures.value in
    let e : to_z w64 (of_z w64 (to_z w64 (of_z w64 c.completion.result) +ℤ pos 1)) ≡ pos l = to_z-of_z w64 _ (overflow_add-result c) ∙ is in
    let top = least_of-top (λ k. (step_of c.args.self.now.schedule k).t) (MAX_TIME + 1) (is_awaited c.args.self.now.schedule c.args.self.now.history) (length c.args.self.now.schedule.steps) in
    rw e (search rules)
