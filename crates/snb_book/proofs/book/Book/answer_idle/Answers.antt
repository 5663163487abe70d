use Rattle.std.proofs.Common.{◌≤◌, ap, subst, arith, Option, ℕ, length}
use Rattle.snb_history.specs.Schedule.{Schedule, step_of}
use Rattle.snb_book.specs.Kept.{Kept}
use Rattle.snb_book.specs.Claims.{IsAdmitted, IsPlanHead}
use Rattle.snb_book.specs.Heads.{IsLate, TellsFirst}
use Rattle.snb_book.proofs.Telling.{history_short}
use Rattle.snb_book.proofs.Answering.{goes, none_admitted}
use Rattle.snb_book.proofs.book.Book.answer_idle.Goals as goal

pub overflow_cast-start : goal.overflow_cast-start
overflow_cast-start c =
    let short = history_short _ _ c.self.invariant.0 in
    let counted = c.len-start.ensures in
    omega arith

pub returns-in-Some : goal.returns-in-Some
returns-in-Some c =
    goes c.args.self.now.schedule c.args.self.now.history c.args.worker c.args.at c.in-Some.op _ c.requires.idle
    (subst (λ (o : Option ℕ). TellsFirst c.args.self.now.schedule (λ j. IsPlanHead c.args.self.now.schedule c.args.self.now.history j × IsAdmitted c.args.self.now.schedule c.args.self.now.history j) o) c.in-Some.ensures.0 c.requires.firsts.ready)
    (subst (λ (s : Schedule). (step_of s c.in-Some.op).due ≤ c.args.at) c.schedule-2.ensures c.in-Some.ensures.1)
    (let counted = c.len-start.ensures in let whole = ap (λ (b : Kept). length b.history) c.self.view_is in omega arith)

pub answer_waiting-requires-clause-none : goal.answer_waiting-requires-clause-none
answer_waiting-requires-clause-none c =
    none_admitted c.args.self.now.schedule c.args.self.now.history c.args.at c.args.firsts.ready c.requires.firsts.ready
    (subst (λ (s : Schedule). IsLate s c.args.at c.args.firsts.ready) c.schedule-2.ensures c.in-None.ensures)
