use Rattle.std.proofs.Common.{◌≡◌, sym, subst, ◌∙◌, w64, FitsSigned, rules}
use Rattle.std.specs.Prelude.{ℤ, pos, ◌<ℤ◌}
use Rattle.std.proofs.lemmas.Int.{to_z-of_z}
use Rattle.snb_history.specs.Schedule.{step_of}
use Rattle.snb_history.specs.Completion.{time_left, completion}
use Rattle.snb_completion.specs.Progress.{flag}
use Rattle.snb_book.specs.Kept.{Kept}
use Rattle.snb_book.proofs.Answering.{completion_is}
use Rattle.snb_book.proofs.book.Book.completion.Goals as goal
use Rattle.snb_history.proofs.Laws.{completion_waits}

pub returns-clause-value : goal.returns-clause-value
returns-clause-value c =
    let fits : FitsSigned w64 c.global_completion.result = search rules in
    to_z-of_z w64 c.global_completion.result fits
    ∙ c.global_completion.ensures
    ∙ subst (λ (b : Kept). time_left c.self.inside.times.schedule (flag c.self.inside.times.finished) ≡ completion b.schedule b.history) c.self.view_is
    (completion_is _ _ _ _ _ _ c.self.invariant.1)

pub returns-clause-waits : goal.returns-clause-waits
returns-clause-waits c = λ k dependency unfinished.
    subst (λ (z : ℤ). z <ℤ pos (step_of c.args.self.now.schedule k).t) (sym (returns-clause-value c))
    (completion_waits c.args.self.now.schedule c.args.self.now.history k dependency unfinished)
