use Rattle.std.proofs.Common.{ap, get_or, ◌∙◌, ◌≤◌, subst, w64, FitsSigned, rules, Option, ℕ}
use Rattle.std.proofs.lemmas.Int.{to_z-of_z}
use Rattle.snb_history.specs.Rules.{LaneIsFinished}
use Rattle.snb_history.specs.Schedule.{Schedule, no_step, step_of}
use Rattle.snb_book.specs.Claims.{IsPlanHead}
use Rattle.snb_book.specs.Heads.{IsLate, TellsFirst}
use Rattle.snb_book.proofs.Answering.{all_busy, blocked, lane_busy}
use Rattle.snb_book.proofs.book.Book.answer_waiting.Goals as goal

pub returns-in-Some : goal.returns-in-Some
returns-in-Some c =
    let fits : FitsSigned w64 c.completion.result = search rules in
    blocked c.args.self.now.schedule c.args.self.now.history c.args.worker c.args.at c.in-Some.op _ _ c.requires.idle c.requires.none
    (subst (λ (o : Option ℕ). TellsFirst c.args.self.now.schedule (λ j. IsPlanHead c.args.self.now.schedule c.args.self.now.history j × LaneIsFinished c.args.self.now.schedule c.args.self.now.history j) o) c.in-Some.ensures.0 c.requires.free)
    (subst (λ (s : Schedule). (step_of s c.in-Some.op).due ≤ c.args.at) c.schedule.ensures c.in-Some.ensures.1)
    (ap (λ l. (get_or l c.in-Some.op no_step).t_d) (c.steps.ensures.value ∙ ap (λ (s : Schedule). s.steps) c.schedule-in-Some.ensures))
    (to_z-of_z w64 c.completion.result fits ∙ c.completion.ensures.value)

pub returns-in-None : goal.returns-in-None
returns-in-None c =
    lane_busy c.args.self.now.schedule c.args.self.now.history c.args.worker c.args.at c.args.first c.holder_before.result c.requires.idle c.requires.first
    (all_busy c.args.self.now.schedule c.args.self.now.history c.args.at c.args.free c.requires.free
    (subst (λ (s : Schedule). IsLate s c.args.at c.args.free) c.schedule.ensures c.in-None.ensures))
    c.holder_before.ensures
