use Rattle.std.proofs.Common.{subst}
use Rattle.snb_history.specs.Schedule.{Schedule}
use Rattle.snb_history.specs.Rules.{IsLegal}
use Rattle.snb_book.specs.Heads.{IsPredecessor}
use Rattle.snb_book.specs.Kept.{Kept}
use Rattle.snb_book.proofs.Asking.{finished_before, waited_told}
use Rattle.snb_book.proofs.Waiting.{all_before}
use Rattle.snb_book.proofs.book.Book.first_unfinished_before.Goals as goal

pub returns-then-finished-before : goal.returns-then-finished-before
returns-then-finished-before c =
    let is : IsPredecessor c.args.self.now.schedule c.args.op c.in-Some.before = subst (λ (s : Schedule). IsPredecessor s c.args.op c.in-Some.before) c.schedule.ensures c.in-Some.ensures in
    all_before c.args.self.now.schedule c.args.self.now.workers c.args.self.now.history
    (subst (λ (b : Kept). IsLegal b.schedule b.workers b.history) c.self.view_is c.self.invariant.0.legal)
    c.args.op c.in-Some.before c.requires is
    (finished_before _ _ _ _ _ _ _ _ c.args.op c.in-Some.before _ c.self.view_is c.self.invariant.1 c.finished.ensures c.requires.0 is c.if-finished-before.true)

pub returns-else-finished-before : goal.returns-else-finished-before
returns-else-finished-before c =
    let is : IsPredecessor c.args.self.now.schedule c.args.op c.in-Some.before = subst (λ (s : Schedule). IsPredecessor s c.args.op c.in-Some.before) c.schedule.ensures c.in-Some.ensures in
    waited_told c.args.self.now.schedule c.args.self.now.workers c.args.self.now.history
    (subst (λ (b : Kept). IsLegal b.schedule b.workers b.history) c.self.view_is c.self.invariant.0.legal)
    c.args.op c.in-Some.before c.requires is
    (finished_before _ _ _ _ _ _ _ _ c.args.op c.in-Some.before _ c.self.view_is c.self.invariant.1 c.finished.ensures c.requires.0 is c.if-finished-before.false)
